-- The starting marks as they are filled in, grant by grant. Assumes nothing.
use Rattle.std.specs.Prelude.{◌≡◌, ℕ, ◌+◌, ◌<◌, Bool, true, false, ◌||◌, List, slice_index, slice_index_or, slice_set}
use Rattle.strategies.specs.Rows.{row_at}
use Rattle.strategies.specs.declared.marks.Sign.{Sign}
use Rattle.strategies.specs.declared.marks.Sign.TheVariants.{Plus, Minus}
use Rattle.strategies.specs.declared.marks.Mark.TheVariants.{Signed, Default}
use Rattle.strategies.specs.declared.rows.Row.{Row}
use Rattle.strategies.specs.declared.rows.Rows.{Rows}
use Rattle.walk.specs.Counts.{count_at, limited, row_of, three, no_rows}
use Rattle.model.specs.Counted.{Lengths, labels, labelled_by}
use Rattle.model.specs.declared.grant.Grant.{Grant}
use Rattle.walked.specs.Starts.{given_by, started}
use Rattle.walked.specs.declared.starts.Starts.{Starts}

-- a row with the chains of each length added at their distance, up to a million million
abbrev pub raised : Row → List ℕ → Row
raised x chains = row_of (λ d. count_at x d + slice_index chains d)

-- rows with the chains added to the row of the sign
abbrev pub raised_rows : Sign → List ℕ → Rows → Rows
raised_rows Plus chains x = three (raised x.plus chains) x.minus x.default
raised_rows Minus chains x = three x.plus (raised x.minus chains) x.default

-- what account a starts with
abbrev pub start_at : Starts → ℕ → Rows
start_at x a = slice_index_or x.rows a no_rows

-- does account a hold a grant that counts?
abbrev pub holds_at : Starts → ℕ → Bool
holds_at x a = slice_index_or x.held a false

-- the start of the grant's account raised
abbrev pub taken : Starts → Grant → List ℕ → Starts
taken x g chains = record {
  rows = slice_set x.rows g.account (raised_rows g.sign chains (start_at x g.account));
  held = slice_set x.held g.account true;
}

-- no account has anything
pub record NothingYet (x : Starts) : Type 0 where
  pub start : (a : ℕ) → a < 64 → start_at x a ≡ no_rows
  pub held : (a : ℕ) → a < 64 → holds_at x a ≡ false

-- one grant more is taken in
pub record OneMore (L : Lengths) (g : Grant) (x y : Starts) : Type 0 where
  pub signed : (a : ℕ) → a < 64 → (sign : Sign) (d : ℕ) → d < 15 →
      row_at (start_at y a) (Signed sign) d ≡ limited (row_at (start_at x a) (Signed sign) d + given_by L g.right a sign d g)
  pub default : (a d : ℕ) → a < 64 → row_at (start_at y a) Default d ≡ row_at (start_at x a) Default d
  pub held : (a : ℕ) → a < 64 → holds_at y a ≡ (holds_at x a || labels L g.right a g)

-- these grants are taken in: each account has the arrivals that its grants give, up to a million million, and no default marks
pub record FromGrants (grants : List Grant) (L : Lengths) (r : ℕ) (x : Starts) : Type 0 where
  pub signed : (a : ℕ) → a < 64 → (sign : Sign) (d : ℕ) → d < 15 → row_at (start_at x a) (Signed sign) d ≡ limited (started grants L r a sign d)
  pub default : (a d : ℕ) → a < 64 → d < 15 → row_at (start_at x a) Default d ≡ 0
  pub held : (a : ℕ) → a < 64 → holds_at x a ≡ labelled_by grants L r a
