-- The whole of the lent counts: the table of the memberships, and what lies behind it. Assumes nothing.
use Rattle.std.proofs.Common.{◌≡◌, ℕ, List, ◌++◌, sym, ◌∙◌, ap₂}
use Rattle.std.proofs.lemmas.List.{take-append-drop}
use Rattle.chains.specs.Chains.{Members}
use Rattle.chains.specs.Table.{size, table_of}
use Rattle.table.specs.Tables.{behind, members_in}
use Rattle.table.specs.declared.tables.Table.{Table}

-- a table over lent counts pins each of them
pub laid_out : (t : Table) → (n : ℕ) (E : Members) (rest : List ℕ) → t.accounts ≡ n → members_in t ≡ E → behind t ≡ rest →
    t.counts.now ≡ table_of n E ++ rest
laid_out t n E rest en eE er =
    sym (take-append-drop (size t.accounts) t.counts.now)
    ∙ ap₂ (λ (xs ys : List ℕ). xs ++ ys) (t.laid ∙ ap₂ (λ (m : ℕ) (F : Members). table_of m F) en eE) er
