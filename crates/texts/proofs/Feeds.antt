-- A text is its lines, each with a line feed behind it. Assumes nothing.
use Rattle.std.proofs.Common.{◌≡◌, ℕ, eqb, List, [], ◌∷◌, ◌++◌, sym, refl, ap, ◌∙◌, subst, ⊎_elim}
use Rattle.std.proofs.lemmas.Bool.{cases_Bool, cond-true, cond-false, eqb-true, eqb-false, ne_eqb}
use Rattle.texts.specs.Lines.{onto, lines_of}
use Rattle.texts.specs.Laws.{with_feeds, ended, NoFeed, NoFeeds, LinesAgain}

-- a text with a byte in it has a line
onto_some : (c : ℕ) (ls : List (List ℕ)) → (l : List ℕ) × (more : List (List ℕ)) × (onto c ls ≡ l ∷ more)
onto_some c [] = (c ∷ [], [], refl)
onto_some c (l ∷ ls) = (c ∷ l, ls, refl)

some_line : (c : ℕ) (cs : List ℕ) → (l : List ℕ) × (more : List (List ℕ)) × (lines_of (c ∷ cs) ≡ l ∷ more)
some_line c cs =
    ⊎_elim
    (λ p. ([], lines_of cs, cond-true (eqb c 10) ([] ∷ lines_of cs) (onto c (lines_of cs)) p))
    (λ p.
    let some = onto_some c (lines_of cs) in
    (some.0, some.1, cond-false (eqb c 10) ([] ∷ lines_of cs) (onto c (lines_of cs)) p ∙ some.2))
    (cases_Bool (eqb c 10))

onto_feeds : (c d : ℕ) (cs : List ℕ) → with_feeds (onto c (lines_of (d ∷ cs))) ≡ c ∷ with_feeds (lines_of (d ∷ cs))
onto_feeds c d cs =
    let some = some_line d cs in
    ap (λ ls. with_feeds (onto c ls)) some.2 ∙ sym (ap (λ ls. c ∷ with_feeds ls) some.2)

again : (text : List ℕ) → with_feeds (lines_of text) ≡ ended text
again [] = refl
again (c ∷ []) =
    ⊎_elim
    (λ p.
    ap with_feeds (cond-true (eqb c 10) ([] ∷ []) ((c ∷ []) ∷ []) p)
    ∙ ap (λ x. x ∷ []) (sym (eqb-true c 10 p))
    ∙ sym (cond-true (eqb c 10) (c ∷ []) (c ∷ 10 ∷ []) p))
    (λ p.
    ap with_feeds (cond-false (eqb c 10) ([] ∷ []) ((c ∷ []) ∷ []) p)
    ∙ sym (cond-false (eqb c 10) (c ∷ []) (c ∷ 10 ∷ []) p))
    (cases_Bool (eqb c 10))
again (c ∷ d ∷ cs) =
    ⊎_elim
    (λ p.
    ap with_feeds (cond-true (eqb c 10) ([] ∷ lines_of (d ∷ cs)) (onto c (lines_of (d ∷ cs))) p)
    ∙ ap (λ l. 10 ∷ l) (again (d ∷ cs))
    ∙ ap (λ x. x ∷ ended (d ∷ cs)) (sym (eqb-true c 10 p)))
    (λ p.
    ap with_feeds (cond-false (eqb c 10) ([] ∷ lines_of (d ∷ cs)) (onto c (lines_of (d ∷ cs))) p)
    ∙ onto_feeds c d cs
    ∙ ap (λ l. c ∷ l) (again (d ∷ cs)))
    (cases_Bool (eqb c 10))

onto_apart : (c : ℕ) (ls : List (List ℕ)) → (c ≡ 10 → ⊥) → NoFeeds ls → NoFeeds (onto c ls)
onto_apart c [] h none = ((h, tt), tt)
onto_apart c (l ∷ ls) h none = ((h, none.0), none.1)

apart : (text : List ℕ) → NoFeeds (lines_of text)
apart [] = tt
apart (c ∷ cs) =
    ⊎_elim
    (λ p. subst NoFeeds (sym (cond-true (eqb c 10) ([] ∷ lines_of cs) (onto c (lines_of cs)) p)) (tt, apart cs))
    (λ p.
    subst NoFeeds (sym (cond-false (eqb c 10) ([] ∷ lines_of cs) (onto c (lines_of cs)) p))
    (onto_apart c (lines_of cs) (eqb-false c 10 p) (apart cs)))
    (cases_Bool (eqb c 10))

-- the first line ends at the first line feed
first_feed : (l rest : List ℕ) → NoFeed l → lines_of (l ++ (10 ∷ rest)) ≡ l ∷ lines_of rest
first_feed [] rest none = refl
first_feed (c ∷ cs) rest none =
    cond-false (eqb c 10) _ _ (ne_eqb c 10 none.0) ∙ ap (onto c) (first_feed cs rest none.1)

back : (ls : List (List ℕ)) → NoFeeds ls → lines_of (with_feeds ls) ≡ ls
back [] none = refl
back (l ∷ ls) none = first_feed l (with_feeds ls) none.0 ∙ ap (λ more. l ∷ more) (back ls none.1)

pub lines_again : LinesAgain
lines_again = record {
  again = again;
  apart = apart;
  back = back;
  lacking = λ text. ap lines_of (sym (again text)) ∙ back (lines_of text) (apart text);
}
