-- `layout::put_run` meets its contract: the whole run is copied.
use Rattle.std.proofs.Common.{length, zero-add, refl, rules, sym, ap, ◌∙◌}
use native.Mathlib.Numerals.{unary_clauses}
use Rattle.std.proofs.lemmas.List.Edits.{sets}
use Rattle.ring.proofs.Runs.{part_written}
use Rattle.layout.proofs.LayoutLaws.{run_all}
use Rattle.layout.proofs.put_run.Goals as goal

pub returns : goal.returns
returns c =
    let a = c.args in
    let n = length a.run.now in
    (refl, part_written a.buf.now a.run.now c.copy_from_slice.new.self a.at 0 n (search rules) (search rules) (c.copy_from_slice.ensures.after ∙ simp (unary_clauses, zero-add) (sym (run_all a.run.now))) ∙ ap (sets a.buf.now a.at) (run_all a.run.now))
