use Rattle.std.proofs.Common.{rules, refl}
use Rattle.std.proofs.lemmas.Result.{err_from_is_err_and}
use Rattle.draft.specs.Laws.Packs.{part_written}
use Rattle.draft.specs.Laws.Packs.{pack_refused, pack_judged, pack_whole}
use Rattle.draft.proofs.pack.Goals as goal

pub returns-in_err-read_all-clause-given : goal.returns-in_err-read_all-clause-given
returns-in_err-read_all-clause-given c = let p = err_from_is_err_and c.from_residual.result c.from_residual.ensures.1 in rw (p.1, p.2) (pack_refused _ _ _ c.in_err-read_all.ensures)

pub returns-in-Err-clause-given : goal.returns-in-Err-clause-given
returns-in-Err-clause-given c = pack_judged _ _ c.in_ok-read_all.ensures c.args.out.now _ c.in-Err.refused _ c.bytes-bytes.ensures.value c.in-Err.ensures c.line_of.ensures

pub returns-clause-given : goal.returns-clause-given
returns-clause-given c = pack_whole _ _ c.in_ok-read_all.ensures c.args.out.now _ _ _ c.bytes-bytes.ensures.value c.in_default.ensures (part_written 0 _ c.args.out.now _ c.bytes-bytes.result.now refl c.copy_from_slice.ensures.after (search rules))
