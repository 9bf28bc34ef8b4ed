-- The law of a text: it is its lines and line feeds. Assumes nothing.
use Rattle.std.specs.Prelude.{◌≡◌, ℕ, cond, List, [], ◌∷◌, ◌++◌, ◌==◌, ◌≢◌}
use Rattle.texts.specs.Lines.{lines_of}

-- the lines, each with a line feed behind it
abbrev pub with_feeds : List (List ℕ) → List ℕ
with_feeds [] = []
with_feeds (l ∷ ls) = l ++ (10 ∷ with_feeds ls)

-- a text with the last line feed that it may lack
abbrev pub ended : List ℕ → List ℕ
ended [] = []
ended (c ∷ []) = cond (c == 10) (c ∷ []) (c ∷ 10 ∷ [])
ended (c ∷ d ∷ cs) = c ∷ ended (d ∷ cs)

-- no line feed in the line; none in any of the lines
abbrev pub NoFeed : List ℕ → Type 0
NoFeed [] = Unit {0}
NoFeed (c ∷ cs) = (c ≢ 10) × NoFeed cs

abbrev pub NoFeeds : List (List ℕ) → Type 0
NoFeeds [] = Unit {0}
NoFeeds (l ∷ ls) = NoFeed l × NoFeeds ls

-- a text is its lines, each with a line feed, of which the last may be missing
pub record LinesAgain : Type 0 where
  pub again : (text : List ℕ) → with_feeds (lines_of text) ≡ ended text
  pub apart : (text : List ℕ) → NoFeeds (lines_of text)
  pub back : (ls : List (List ℕ)) → NoFeeds ls → lines_of (with_feeds ls) ≡ ls
  pub lacking : (text : List ℕ) → lines_of (ended text) ≡ lines_of text
