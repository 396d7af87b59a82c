use Rattle.std.specs.List.{range_with_len}
use Rattle.std.proofs.Common.{arith, rules, ◌∙◌}
use Rattle.std.proofs.lemmas.Iterator.{YieldsList-from_map, YieldsList-from_range}
use Rattle.std.proofs.lemmas.Iterator.Consumers.{sum_by_from_yields_List, fits_by_from_yields_list}
use Rattle.kernel.specs.Held.{set_of}
use Rattle.kernel.specs.Laws.Sums.{sum_listed}
use Rattle.kernel.proofs.accepted.Accepted.total_segments.Goals as goal

pub sum-requires-clause-fits : goal.sum-requires-clause-fits
sum-requires-clause-fits c =
    let J = set_of c.args.self.now.jobs in
    fits_by_from_yields_list J.segments (range_with_len 0 J.jobs) _ _
    (YieldsList-from_map _ J.segments (YieldsList-from_range 0 _ _ c.map.ensures.source (omega (arith, c.jobs.ensures))) c.map.ensures.closure (λ x r q k. search rules))
    (omega (arith, sum_listed J.segments J.jobs, c.args.self.now.loaded.few_segments))

pub returns : goal.returns
returns c =
    let J = set_of c.args.self.now.jobs in
    sum_by_from_yields_List J.segments (range_with_len 0 J.jobs) c.map.result c.sum.result c.sum.ensures.ran
    (YieldsList-from_map _ J.segments (YieldsList-from_range 0 _ _ c.map.ensures.source (omega (arith, c.jobs.ensures))) c.map.ensures.closure (λ x r q k. search rules))
    ∙ sum_listed J.segments J.jobs
