use Rattle.determinize_dense.proofs.Common.{arith, sym}
use Rattle.determinize_dense.proofs.FirstRows.{first-known, first-new, firsts-known, firsts-new}
use Rattle.determinize_dense.proofs.Splitting.{pushed}
use Rattle.std.proofs.lemmas.Map.Text.{hash_map_updates_str}
use Rattle.determinize_dense.proofs.rows.Rows.first_rows.Goals as goal

pub loop-row-preserved : goal.loop-row-preserved
loop-row-preserved g c =
    let so_far = c.loop-row.invariant.known in
    elim c.match-get.branch [
      | goal.in-Some+in_ok-push w ↦
          let known = rw c.patterns-list.ensures at (sym (rw w.in-Some.is at c.get.ensures.value)) in
          rw (w.values-is, w.firsts-is) (grind (arith, pushed, first-known so_far known, firsts-known so_far known))
      | goal.in_default+in_ok-insert+in_ok-push-2 w ↦
          let new = rw c.patterns-list.ensures at (sym (rw w.in_default.is at c.get.ensures.value)) in
          let added = rw c.patterns-list.ensures at (hash_map_updates_str c.patterns-list.result.now c.loop-row.firsts
          w.insert.new.self _ w.in_ok-insert.ensures.updates) in
          rw (w.values-is, w.firsts-is) (grind (arith, pushed, first-new so_far new, firsts-new so_far new added))
    ]

pub returns : goal.returns
returns g c = record { count = omega arith; firsts = c.loop-row.invariant.firsts }
