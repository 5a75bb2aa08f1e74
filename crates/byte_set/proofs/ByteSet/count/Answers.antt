use Rattle.std.proofs.Common.{Bool, true, false, ℕ, ◌≡◌, ◌<◌, ◌+◌, ◌-◌, ◌%◌, ◌∙◌, ap, cond, eqb, get_or, sym, arith}
use Rattle.byte_set.specs.Sets.{IsOnly, is_member}
use Rattle.byte_set.specs.Tables.{bits_of, passes, same_bits}
use Rattle.byte_set.proofs.Counts.{count_next, count_same, passes-only}
use Rattle.byte_set.proofs.ByteSet.count.Goals.{in-Some, in-None, then-contains, else-contains}
use Rattle.byte_set.proofs.ByteSet.count.Goals as goal

pub loop-index-init : goal.loop-index-init
loop-index-init c =
    let a = c.args in
    let rest = a.to - (a.to - a.from) % 16 in
    let byte = λ (k : ℕ). (c.type_inv.text k).fits in
    let same = λ (p : ℕ → Bool). count_same p (is_member a.self.now) a.text.now a.from rest (omega arith)
    (omega arith) in
    record {
      low = omega arith;
      count = elim c.match-self.branch [
        | in-Some w ↦
            let only : IsOnly a.self.now w.in-Some.byte = rw (c.self.view_is, w.in-Some.is) at c.self.invariant in
            w.count-is ∙ w.count_by_vectors-count.ensures
            ∙ same (passes (same_bits w.in-Some.byte))
            (λ k. passes-only w.in-Some.byte (get_or a.text.now k 0) ∙ sym (only (get_or a.text.now k 0) (byte k)))
        | in-None w ↦
            w.count-is ∙ w.count_by_vectors-count-in-None.ensures
            ∙ same (passes (bits_of w.tables.result.low w.tables.result.high))
            (λ k. w.tables.ensures (get_or a.text.now k 0) (byte k))
      ];
    }

pub loop-index-preserved : goal.loop-index-preserved
loop-index-preserved c =
    let a = c.args in
    let at = c.loop-index in
    let next = count_next (is_member a.self.now) a.text.now a.from at.index at.invariant.low (omega arith) in
    let byte = get_or a.text.now at.index 0 in
    let one : (t : Bool) → c.contains.result ≡ t → cond {A = ℕ} (is_member a.self.now byte) 1 0 ≡ cond t 1 0 =
    λ t is. ap (λ b. cond {A = ℕ} b 1 0) (sym c.contains.ensures ∙ is) in
    record {
      low = omega arith;
      count = elim c.if-contains.branch [
        | then-contains w ↦ omega (arith, next, one true w.if-contains.true, at.invariant.count, w.count-is)
        | else-contains w ↦ omega (arith, next, one false w.if-contains.false, at.invariant.count, w.count-is)
      ];
    }
