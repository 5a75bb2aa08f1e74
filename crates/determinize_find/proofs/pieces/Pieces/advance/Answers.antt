use Rattle.determinize_find.proofs.Common.{arith, IsFed, IsSearching, length, None, of_err, refl, rules, sym, [], ◌∙◌, ◌∷◌, ◌≡◌, ◌≤◌}
use Rattle.determinize_find.proofs.streams.Steps.{blocks_none, joined_none, left_kept, next_block, read_on}
use Rattle.determinize_find.proofs.pieces.Pieces.advance.Given.{Over}
use Rattle.determinize_find.proofs.pieces.Pieces.advance.Goals.{After-pass}
use Rattle.determinize_find.proofs.pieces.Pieces.advance.Goals as goal

pub loop-next-init : goal.loop-next-init
loop-next-init g c = record { same = refl; read = blocks_none c.args.piece.now.now; left = omega arith }

pub returns-in_err-next-clause-read : goal.returns-in_err-next-clause-read
returns-in_err-next-clause-read g c searching =
    let read = c.loop-next.invariant.read searching in
    let move = ((rw c.loop-next.invariant.same at c.in_err-next.ensures.step) read.searching).moved in
    record { fed = search rules; failed = of_err _ (read_on read (move.fed [])); searching = move.searching }

-- nothing more was read, and the match was found
found : (g : Over) (c : After-pass g) → IsSearching c.args.regex.now.nfa c.args.self.now
    → IsFed c.args.regex.now.nfa c.loop-next.self c.pass.new.self [] [] (c.in_text-found.result ∷ [])
found g c searching =
    let read = c.loop-next.invariant.read searching in
    let step = (rw c.loop-next.invariant.same at c.in_ok-next.ensures.step) read.searching in
    let certain = rw c.in-Some.is at step.certain in
    rw c.in_text-found.ensures
    (joined_none (step.moved.fed []) (c.pass.ensures.fed c.args.regex.now.nfa certain []))

pub returns-in-Some-clause-read : goal.returns-in-Some-clause-read
returns-in-Some-clause-read g c searching =
    let fed = found g (goal.at.returns-in-Some-clause-read g c).After-pass searching in
    let place = rw c.in-Some.is at c.in_ok-next.ensures.place in record {
      fed = read_on (c.loop-next.invariant.read searching) fed;
      failed = tt;
      searching = rw (c.pass.ensures.value, place.none) tt;
    }

pub returns-in-Some-clause-block : goal.returns-in-Some-clause-block
returns-in-Some-clause-block g c searching = (c.loop-next.invariant.read searching).last
    (found g (goal.at.returns-in-Some-clause-block g c).After-pass searching)

pub returns-then-is_empty-clause-read : goal.returns-then-is_empty-clause-read
returns-then-is_empty-clause-read g c searching =
    let read = c.loop-next.invariant.read searching in
    let move = ((rw c.loop-next.invariant.same at c.in_ok-next.ensures.step) read.searching).moved in
    record { fed = read_on read (move.fed []); failed = tt; searching = move.searching }

pub returns-in_err-keep-clause-read : goal.returns-in_err-keep-clause-read
returns-in_err-keep-clause-read g c searching =
    let read = c.loop-next.invariant.read searching in
    let move = ((rw c.loop-next.invariant.same at c.in_ok-next.ensures.step) read.searching).moved in
    rw c.in_err-keep.ensures.failed
    record { fed = search rules; failed = of_err _ (read_on read (move.fed [])); searching = move.searching }

pub loop-next-preserved : goal.loop-next-preserved
loop-next-preserved g c =
    let same = c.in_ok-next.ensures.same ∙ c.loop-next.invariant.same in
    let none : c.in_ok-next.field-0 ≡ None = search rules in
    let small : length c.split_at.result.0.now ≤ 4096 = search rules in
    let cut = sym c.split_at.ensures.by_index.0 in
    let kept = left_kept c.next_certain.new.self c.keep.new.self c.split_at.result.0.now c.split_at.result.1.now
    c.loop-next.piece.now c.in_ok-keep.ensures.kept cut in record {
      same = c.in_ok-keep.ensures.same ∙ same;
      read = λ searching.
          let read = c.loop-next.invariant.read searching in
          let step = (rw (c.loop-next.invariant.same, none) at c.in_ok-next.ensures.step) read.searching in
          next_block read cut small (step.moved.fed []) step.few
          (c.in_ok-keep.ensures.fed c.args.regex.now.nfa [])
          ((rw same at c.keep.ensures.searching) step.moved.searching);
      left = omega (arith, kept, c.in_ok-next.ensures.left, c.loop-next.invariant.left);
    }
