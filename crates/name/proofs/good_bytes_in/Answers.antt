-- `good_bytes_in` meets its contract.
-- Assumes nothing.
use Rattle.std.proofs.Common.{rules, tests, ◌≡◌, ◌∙◌, sym}
use Rattle.std.specs.List.{list_all}
use Rattle.std.proofs.lemmas.Iterator.{YieldsList-from_slice}
use Rattle.std.proofs.lemmas.Iterator.Search.{all_from_yields_List}
use Rattle.std.proofs.lemmas.List.{nil_from_length}
use Rattle.name.specs.Class.{later_byte}
use Rattle.name.proofs.Bytes.{starts, starts_not, no_bytes}
use Rattle.name.proofs.good_bytes_in.Goals as goal

pub returns-then-may_start : goal.returns-then-may_start
returns-then-may_start c =
    let later : c.all.result ≡ list_all later_byte c.in-Some.later.now =
    all_from_yields_List later_byte _ _ c.all.result c.all.ensures.ran (YieldsList-from_slice c.in-Some.later.now cc) (λ x b q k. search (rules, tests))
    in
    starts _ _ _ _ c.in-Some.ensures.cases.0 (sym c.may_start.ensures ∙ c.if-may_start.true) later

pub returns-else-may_start : goal.returns-else-may_start
returns-else-may_start c = c.if-may_start.false ∙ starts_not _ _ _ c.in-Some.ensures.cases.0 (sym c.may_start.ensures ∙ c.if-may_start.false)

pub returns-in-None : goal.returns-in-None
returns-in-None c = no_bytes _ (nil_from_length _ (search rules))
