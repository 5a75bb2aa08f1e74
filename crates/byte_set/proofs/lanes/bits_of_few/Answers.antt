use Rattle.std.proofs.Common.{◌%◌, ◌/◌, ap, arith, get_or, refl, sym, subst, w8}
use Rattle.std.proofs.lemmas.Simd.{SwzOk}
use Rattle.byte_set.proofs.Blocks.{bit_table, low_halves, high_halves, low_below, high_below, bits_of_lanes, SwzOk-map}
use Rattle.byte_set.proofs.lanes.bits_of_few.Goals as goal

pub swizzle-by_low : goal.swizzle-by_low
swizzle-by_low c =
    let v = c.args.bytes in
    let long = c.fits-bytes.0 in
    subst (SwzOk w8 16 16 0) (sym (low_halves 1 16 refl v long))
    (SwzOk-map 1 16 refl v long (λ b. b % 16) (low_below 1 16 refl v long))

pub swizzle-by_high : goal.swizzle-by_high
swizzle-by_high c =
    let v = c.args.bytes in
    let long = c.fits-bytes.0 in
    subst (SwzOk w8 16 16 0) (sym (low_halves 1 16 refl v long))
    (SwzOk-map 1 16 refl v long (λ b. b % 16) (low_below 1 16 refl v long))

pub swizzle : goal.swizzle
swizzle c =
    let v = c.args.bytes in
    let long = c.fits-bytes.0 in
    subst (SwzOk w8 16 16 0) (sym (high_halves 1 16 refl v long))
    (SwzOk-map 1 16 refl v long (λ b. b / 16) (high_below 1 16 refl v long c.fits-bytes.1))

pub returns : goal.returns
returns c = bits_of_lanes 1 16 refl c.args.bytes c.fits-bytes.0 c.fits-bytes.1 c.args.low c.args.high c.args.low
    c.args.high bit_table (λ k l. ap (λ j. get_or c.args.low j 0) (omega arith))
    (λ k l. ap (λ j. get_or c.args.high j 0) (omega arith)) (λ k l. ap (λ j. get_or bit_table j 0) (omega arith))
