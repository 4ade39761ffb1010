use Rattle.std.proofs.Common.{rules, is_lt}
use Rattle.std.proofs.lemmas.Result.{on_ok_weaker}
use Rattle.std.proofs.lemmas.List.Sorted.{ranks_by, IsPermutation-map}
use Rattle.std.proofs.lemmas.Fn.{always_returns_same}
use Rattle.cedar_policy_store.specs.IdOrder.{id_order}
use Rattle.cedar_policy_store.specs.Listing.{lent_policy, lent_id}
use Rattle.cedar_policy_store.proofs.Listed.{id_order_total}
use Rattle.cedar_policy_store.proofs.listing.sort_by_name.Goals as goal

pub returns-clause-same : goal.returns-clause-same
returns-clause-same c = IsPermutation-map lent_policy c.args.all.now.items c.sort_by.new.self.items c.sort_by.ensures.permutation

pub returns-clause-sorted : goal.returns-clause-sorted
returns-clause-sorted c =
    on_ok_weaker c.sort_by.result
    (λ sorted. sorted (λ a b. is_lt (id_order (lent_id a) (lent_id b))) (ranks_by id_order_total lent_id) (always_returns_same _ _ _ (λ a r f k. search rules)))
    c.sort_by.ensures.sorted
