mod LinesRun
