mod Accepted
mod Before
mod Given
mod Joined
