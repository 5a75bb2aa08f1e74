use Rattle.std.proofs.Common.{◌≡◌, ◌/◌, ◌%◌, sym, ap, ◌∙◌, arith}
use Rattle.std.proofs.lemmas.Bool.{cond_above, cond_below}
use Rattle.byte_set.specs.Sets.{is_member}
use Rattle.byte_set.specs.Tables.{bits_of, entry_of, passes}
use Rattle.byte_set.proofs.Members.{bit-at, member-of}
use Rattle.byte_set.proofs.ByteSet.contains.Goals.{then-byte-lt128, else-byte-lt128}
use Rattle.byte_set.proofs.ByteSet.contains.Goals as goal

pub returns : goal.returns
returns c =
    let b = c.args.byte in
    let s = c.self.inside in
    let entry : c.if-byte-lt128.entry ≡ entry_of s.low s.high b = elim c.if-byte-lt128.branch [
      | then-byte-lt128 w ↦ grind (arith, w.entry-is, w.if-byte-lt128.true, cond_below, c.from-index.ensures)
      | else-byte-lt128 w ↦ grind (arith, w.entry-is, w.if-byte-lt128.false, cond_above, c.from-index.ensures)
    ] in
    let bit = bit-at (b / 16 % 8) (omega arith) in
    let found : passes (bits_of s.low s.high) b ≡ is_member c.args.self.now b = sym
    (member-of s.low s.high b c.ranges.byte.fits) ∙ ap (λ v. is_member v b) c.self.view_is in
    rw (entry, bit) found
