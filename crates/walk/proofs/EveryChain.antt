-- The sum over any list of every chain down to an account is the sum over the listed chains. Assumes nothing.
use Rattle.std.proofs.Common.{◌≡◌, ℕ, ◌<◌, List, [], ◌∷◌, map, sym, refl, ap, ◌∙◌, subst}
use mathlib.Core.Path.{fun_ext}
use mathlib.Core.List.Memᴰ
use mathlib.Core.List.{Memᴰ}
use Rattle.lists.specs.Lists.{Once, below, join_all}
use Rattle.chains.specs.Chains.{Members, Chain, accounts, Within, Short, chains}
use Rattle.chains.proofs.Listing.{below_has, once_map, once_below, listed_is_chain, chain_is_listed, listed_once}
use Rattle.chains.proofs.Steps.{chain_top_known}
use Rattle.chains.proofs.Unique.{chain_from_accounts}
use Rattle.walk.specs.Weights.{Laws, total, times, arrivals}
use Rattle.walk.specs.Every.{ChainTo, EveryChain, brought, ChainsCanBeListed}
use Rattle.walk.specs.Walked.{Walked}
use Rattle.walk.proofs.AllChains.{no_more}
use Rattle.walk.proofs.Totals.{map_map, map_join}
use Rattle.walk.proofs.Listed.{join_in, join_out, once_join}
use Rattle.walk.proofs.AnyOrder.{same_total}

-- what tells a chain from the others: its top, its length and its accounts
abbrev Key : Type 0
Key = ℕ × ℕ × List ℕ

abbrev to : {E : Members} {s : ℕ} (a k : ℕ) → Chain E a k s → ChainTo E s
to a k c = record { top = a; memberships = k; chain = c }

abbrev key : {E : Members} {s : ℕ} → ChainTo E s → Key
key c = (c.top, c.memberships, accounts c.chain)

same_chain : {E : Members} {s : ℕ} (c d : ChainTo E s) → key c ≡ key d → c ≡ d
same_chain {E} {s} c d e =
    go c.top c.memberships c.chain d.top d.memberships d.chain (ap (λ x. x.0) e) (ap (λ x. x.1) e) (ap (λ x. x.2) e)
  where
    go : (a k : ℕ) (x : Chain E a k s) (b l : ℕ) (y : Chain E b l s) → a ≡ b → k ≡ l → accounts x ≡ accounts y → to a k x ≡ to b l y
    go a k x b l y p q r =
        subst (λ (b' : ℕ). (l' : ℕ) → k ≡ l' → (y' : Chain E b' l' s) → accounts x ≡ accounts y' → to a k x ≡ to b' l' y') p
        (λ l' q'. subst (λ (m : ℕ). (y' : Chain E a m s) → accounts x ≡ accounts y' → to a k x ≡ to a m y') q'
        (λ y' r'. ap (to a k) (chain_from_accounts x y' r')))
        l q y r

once_unmap : {A B : Type 0} (f : A → B) (xs : List A) → Once (map f xs) → Once xs
once_unmap f [] o = tt
once_unmap f (x ∷ xs) o = (λ h. o.0 (Memᴰ.map f h), once_unmap f xs o.1)

module _ (n : ℕ) (E : Members) (s : ℕ) where
  -- the keys of the listed chains from a, of those of length k, and of all
  abbrev from_top : ℕ → ℕ → List Key
  from_top k a = map (λ path. (a, k, path)) (chains n E a s k)

  abbrev of_length : ℕ → List Key
  of_length k = join_all (from_top k) (below n)

  abbrev listing : List Key
  listing = join_all of_length (below 8)

  top_is : (k a : ℕ) (x : Key) → Memᴰ x (from_top k a) → x.0 ≡ a
  top_is k a x h = sym (ap (λ y. y.0) (Memᴰ.of_map (λ path. (a, k, path)) (chains n E a s k) h).2)

  length_is : (k : ℕ) (x : Key) → Memᴰ x (of_length k) → x.1 ≡ k
  length_is k x h =
      let top = join_out (from_top k) (below n) h in
      sym (ap (λ y. y.1) (Memᴰ.of_map (λ path. (top.0, k, path)) (chains n E top.0 s k) top.2).2)

  once_listing : Once listing
  once_listing =
      once_join of_length (below 8) (once_below 8)
      (λ k. once_join (from_top k) (below n) (once_below n)
      (λ a. once_map (λ path. (a, k, path)) (λ x y e. ap (λ t. t.2) e) (chains n E a s k) (listed_once n E k a s))
      (λ a b x h j. sym (top_is k a x h) ∙ top_is k b x j))
      (λ k l x h j. sym (length_is k x h) ∙ length_is l x j)

  from_listing : (x : Key) → Memᴰ x listing → (c : ChainTo E s) × (key c ≡ x)
  from_listing x h =
      let long = join_out of_length (below 8) h in
      let k = long.0 in
      let top = join_out (from_top k) (below n) long.2 in
      let a = top.0 in
      let path = Memᴰ.of_map (λ (p : List ℕ). (a, k, p)) (chains n E a s k) top.2 in
      let c = listed_is_chain n E k a s path.0 path.1 in
      (to a k c.0, ap (λ (p : List ℕ). (a, k, p)) c.1 ∙ path.2)

  in_listing : Within n E → Short E → s < n → (c : ChainTo E s) → Memᴰ (key c) listing
  in_listing w short known c =
      join_in of_length (below 8) (below_has 8 c.memberships (short c.top s c.memberships c.chain))
      (join_in (from_top c.memberships) (below n) (below_has n c.top (chain_top_known w known c.chain))
      (Memᴰ.map (λ (p : List ℕ). (c.top, c.memberships, p)) (chain_is_listed n E w c.chain)))

  listing_brings : {X : Type 0} (next : X → X) (start : ℕ → X) → map (λ (x : Key). times next x.1 (start x.0)) listing ≡ arrivals next n E start s 8
  unfolding arrivals
  listing_brings {X} next start =
      let value : Key → X = λ x. times next x.1 (start x.0) in
      map_join value of_length (below 8)
      ∙ ap (λ f. join_all f (below 8))
      (fun_ext (λ k. map_join value (from_top k) (below n)
      ∙ ap (λ f. join_all f (below n)) (fun_ext (λ a. map_map value (λ path. (a, k, path)) (chains n E a s k)))))

  any_listing : {W : Type 0} {none : W} {add : W → W → W} {next : W → W} → Laws none add next → Within n E → Short E → s < n → (start : ℕ → W) (cs : List (ChainTo E s)) → EveryChain E s cs → total none add (arrivals next n E start s 8) ≡ total none add (map (brought next start) cs)
  any_listing {W} {none} {add} {next} laws w short known start cs every =
      let value : Key → W = λ x. times next x.1 (start x.0) in
      ap (total none add) (sym (listing_brings next start))
      ∙ same_total laws value listing (map key cs) once_listing (once_map key same_chain cs every.once)
      (λ x h. let c = from_listing x h in Memᴰ.cast (sym c.1) (Memᴰ.map key (every.all c.0)))
      (λ x h. let c = Memᴰ.of_map key cs h in Memᴰ.cast (sym c.2) (in_listing w short known c.0))
      ∙ ap (total none add) (map_map value key cs)

  -- the sum over the listed chains is all that the walk gives
  pub walked : {W : Type 0} {none : W} {add : W → W → W} {next : W → W} → Laws none add next → Within n E → s < n → (start : ℕ → W) (r : W) → r ≡ total none add (arrivals next n E start s 8) → Walked none add next n E start s r
  walked {W} {none} {add} {next} laws w known start r e = record {
    answer = e;
    every = λ short many h. e ∙ ap (total none add) (sym (no_more n E short next start s many h));
    chains = λ short cs every. e ∙ any_listing laws w short known start cs every;
  }

  -- the chains whose keys are given
  chosen : (xs : List Key) → ((x : Key) → Memᴰ x xs → (c : ChainTo E s) × (key c ≡ x)) → (cs : List (ChainTo E s)) × (map key cs ≡ xs)
  chosen [] f = ([], refl)
  chosen (x ∷ xs) f =
      let c = f x (Memᴰ.head refl) in
      let rest = chosen xs (λ y h. f y (Memᴰ.tail h)) in
      (c.0 ∷ rest.0, λ i. c.1 i ∷ rest.1 i)

pub can_be_listed : ChainsCanBeListed
can_be_listed n E w short s known =
    let it = chosen n E s (listing n E s) (from_listing n E s) in (
      it.0,
      record {
        all = λ c.
            let found = Memᴰ.of_map key it.0 (subst (λ (xs : List Key). Memᴰ (key c) xs) (sym it.1) (in_listing n E s w short known c)) in
            Memᴰ.cast (sym (same_chain found.0 c found.2)) found.1;
        once = once_unmap key it.0 (subst (λ (xs : List Key). Once xs) (sym it.1) (once_listing n E s));
      },
    )
