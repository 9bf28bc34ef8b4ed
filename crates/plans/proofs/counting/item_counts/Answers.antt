use Rattle.std.proofs.Common.{sym}
use mathlib.Core.List.Memᴰ
use Rattle.plans.specs.Laws.{FewBetweenTwo, FewToAnItem, ItemListingIsExact, NoLongerChain}
use Rattle.plans.proofs.ItemChains.{all_lengths_few, chain_short, chains_few, chains_few_together, own_lengths_few}
use Rattle.plans.proofs.Listing.{listed_is_chain, chain_is_listed, listed_once}
use Rattle.plans.proofs.Unique.{chain_from_items}
use Rattle.plans.proofs.counting.item_counts.Goals as goal

exact : ItemListingIsExact
exact M lawful b o k = (
  λ path. (listed_is_chain M k b o path, λ r. Memᴰ.cast (sym r.1) (chain_is_listed M r.0)),
  chain_from_items,
  listed_once M lawful k b o,
)

short : NoLongerChain
short M lawful b o k chain = chain_short M lawful chain

few : FewToAnItem
few M lawful o = (λ items k. chains_few_together M lawful items k o, λ items lengths. all_lengths_few M lawful items lengths o)

between : FewBetweenTwo
between M lawful b o = (λ k. chains_few M lawful k b o, λ lengths. own_lengths_few M lawful lengths b o)

pub returns : goal.returns
returns g c = record { counted = c.counts_to.ensures.counted; listed = exact; short = short; few = few; between = between }
