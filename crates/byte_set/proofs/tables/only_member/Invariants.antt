use Rattle.std.proofs.Common.{◌≡◌, ℕ, ◌<◌, false, MatchOption}
use Rattle.std.specs.Prelude.{◌==◌}
use Rattle.byte_set.specs.Sets.{is_member}
use Rattle.byte_set.proofs.tables.only_member.Given as goal

abbrev pub invariant-loop-byte : goal.invariant-loop-byte
invariant-loop-byte l = MatchOption l.only ((b : ℕ) → b < l.byte → is_member l.members b ≡ false)
    (λ x. (x < l.byte) × ((b : ℕ) → b < l.byte → is_member l.members b ≡ (b == x)))
