use Rattle.std.proofs.Common.{◌%◌, ◌/◌, refl, sym, subst, w8}
use Rattle.std.proofs.lemmas.Simd.{SwzOk}
use Rattle.byte_set.proofs.Blocks.{low_halves, high_halves, low_below, high_below, bits_of_lanes, SwzOk-map}
use Rattle.byte_set.proofs.lanes.bits_of_many.Goals as goal

pub swizzle-by_low : goal.swizzle-by_low
swizzle-by_low c =
    let v = c.args.bytes in
    let long = c.fits-bytes.0 in
    subst (SwzOk w8 16 64 0) (sym (low_halves 4 64 refl v long))
    (SwzOk-map 4 64 refl v long (λ b. b % 16) (low_below 4 64 refl v long))

pub swizzle-by_high : goal.swizzle-by_high
swizzle-by_high c =
    let v = c.args.bytes in
    let long = c.fits-bytes.0 in
    subst (SwzOk w8 16 64 0) (sym (low_halves 4 64 refl v long))
    (SwzOk-map 4 64 refl v long (λ b. b % 16) (low_below 4 64 refl v long))

pub swizzle : goal.swizzle
swizzle c =
    let v = c.args.bytes in
    let long = c.fits-bytes.0 in
    subst (SwzOk w8 16 64 0) (sym (high_halves 4 64 refl v long))
    (SwzOk-map 4 64 refl v long (λ b. b / 16) (high_below 4 64 refl v long c.fits-bytes.1))

pub returns : goal.returns
returns c = bits_of_lanes 4 64 refl c.args.bytes c.fits-bytes.0 c.fits-bytes.1 c.args.low c.args.high
    c.four_times.result c.four_times-2.result c.four_times-3.result c.four_times.ensures c.four_times-2.ensures
    c.four_times-3.ensures
