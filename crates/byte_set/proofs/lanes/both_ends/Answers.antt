use Rattle.std.proofs.Common.{◌≡◌, ◌+◌, ◌-◌, ◌++◌, length, get_or, ap, ◌∙◌, arith, length-append}
use Rattle.std.specs.Simd.Lanes.{chunk}
use Rattle.std.proofs.lemmas.Simd.{get_or-chunk, length-chunk, pick_l_whole}
use Rattle.std.proofs.lemmas.List.{get_or_append_left, get_or-append_right}
use Rattle.byte_set.proofs.lanes.both_ends.Goals as goal

pub returns-clause-front : goal.returns-clause-front
returns-clause-front c k l =
    let text = c.args.text.now in
    let front = chunk c.args.from 8 text in
    let back = chunk (c.args.to - 8) 8 text in
    let long : length front ≡ 8 = length-chunk c.args.from 8 text (omega arith) in
    let also : length back ≡ 8 = length-chunk (c.args.to - 8) 8 text (omega arith) in
    ap (λ v. get_or v k 0) (pick_l_whole 0 (front ++ back) 16 (omega (arith, length-append front back)))
    ∙ get_or_append_left front back 0 k (omega arith) ∙ get_or-chunk c.args.from 8 text k 0 l

pub returns-clause-back : goal.returns-clause-back
returns-clause-back c k l =
    let text = c.args.text.now in
    let front = chunk c.args.from 8 text in
    let back = chunk (c.args.to - 8) 8 text in
    let long : length front ≡ 8 = length-chunk c.args.from 8 text (omega arith) in
    let also : length back ≡ 8 = length-chunk (c.args.to - 8) 8 text (omega arith) in
    let lane : 8 + k - 8 ≡ k = omega arith in
    ap (λ v. get_or v (8 + k) 0) (pick_l_whole 0 (front ++ back) 16 (omega (arith, length-append front back)))
    ∙ get_or-append_right front back 8 (8 + k) 0 long (omega arith) ∙ ap (λ j. get_or back j 0) lane
    ∙ get_or-chunk (c.args.to - 8) 8 text k 0 l
