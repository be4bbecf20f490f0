-- `listing::settle::zero_from` meets its contract: every byte from the index on, or none is left, by `zeros_from` of proofs/Settled. Assumes nothing.
use Rattle.std.proofs.Common.{rules, tests, ◌∙◌, eqb}
use Rattle.std.proofs.lemmas.Iterator.{YieldsList-from_slice}
use Rattle.std.proofs.lemmas.Iterator.Search.{all_from_yields_List}
use Rattle.listing.proofs.Settled.{zeros_from}
use Rattle.listing.proofs.settle.zero_from.Goals as goal

pub returns : goal.returns
returns c =
    all_from_yields_List (λ b. eqb b 0) _ _ c.all.result c.all.ensures.ran (YieldsList-from_slice _ c.iter.ensures.rest) (λ x b q k. search (rules, tests))
    ∙ zeros_from c.args.header c.args.from _ (search rules) c.min.ensures
