use Rattle.determinize_find.proofs.Common.{chunks_rest, chunks_size, nil_from_length, of_err, refl, rules, ◌∙◌, ◌≡◌}
use Rattle.determinize_find.proofs.streams.Steps.{all_read, part_fed, read_more, read_none}
use Rattle.determinize_find.proofs.pieces.Pieces.feed.Goals as goal

pub loop-block-init : goal.loop-block-init
loop-block-init g c =
    let all : chunks_rest c.into_iter-block-iterator.result ≡ c.args.piece.now = search rules in
    let size : chunks_size c.into_iter-block-iterator.result ≡ 4096 = search rules in
    (search rules, tt, refl, size, λ searching. (searching, read_none _ _ _ _ _ all))

pub loop-block-preserved : goal.loop-block-preserved
loop-block-preserved g c = (
  search rules,
  tt,
  c.in_ok-read_block.ensures.same ∙ c.loop-block.invariant.2,
  c.in-Some.ensures.steps.0 ∙ c.loop-block.invariant.3,
  λ searching.
      let (before, read) = c.loop-block.invariant.4 searching in
      let block = (rw c.loop-block.invariant.2 at c.read_block.ensures.read) before in
      let few = (rw c.loop-block.invariant.2 at c.in_ok-read_block.ensures.few) before in
      let steps = c.in-Some.ensures.steps in (
        block.searching,
        read_more read (chunks_rest c.next.new.self) steps.1.0 (rw c.loop-block.invariant.3 at steps.1.1) steps.1.2
            (rw c.in_ok-read_block.was at block.fed) few,
      ),
)

pub returns-in_err-read_block-clause-read : goal.returns-in_err-read_block-clause-read
returns-in_err-read_block-clause-read g c searching =
    let (before, read) = c.loop-block.invariant.4 searching in
    let block = (rw c.loop-block.invariant.2 at c.read_block.ensures.read) before in
    let failed = rw c.in_err-read_block.was at block.failed in
    let cut = rw c.in-Some.ensures.steps.1.0 at read.cut in
    let part = part_fed (chunks_rest c.next.new.self) c.args.piece.now cut read.fed failed in
    record { fed = search rules; failed = of_err _ part; searching = block.searching }

pub returns-clause-read : goal.returns-clause-read
returns-clause-read g c searching =
    let (now, read) = c.loop-block.invariant.4 searching in
    let all = all_read read (nil_from_length _ c.in-None.ensures.steps.1.0) in
    record { fed = all.0; failed = tt; searching = now }

pub returns-clause-few : goal.returns-clause-few
returns-clause-few g c searching =
    (all_read (c.loop-block.invariant.4 searching).1 (nil_from_length _ c.in-None.ensures.steps.1.0)).1
