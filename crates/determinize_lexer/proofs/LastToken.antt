-- Where the last of a list of tokens ends.
-- Main statements: end_of_last_is, drop_within.
-- Used by: `rest`.
-- Idea: the list ends with its last element, and what is dropped past the end of a list is nothing.
use Rattle.determinize_regex.proofs.Common.{ap, arith, by_cases, cases_lt, drop, drop_all, length, List, Match, None}
use Rattle.determinize_regex.proofs.Common.{Option, refl, slice_get_cases, Some, suc, sym, [], ℕ, ◌-◌, ◌∙◌, ◌∷◌, ◌≡◌}
use Rattle.std.specs.Option.{option_map_or}
use Rattle.std.specs.Prelude.{min, slice_get}
use Rattle.ordered_reach.proofs.Cases.{some_injective}
use Rattle.determinize_linear.specs.Tokens.{end_of_last}

end_of_more : (start : ℕ) (first : Match) (ms : List Match) (m : Match) → slice_get (first ∷ ms) (length ms) ≡ Some m
    → end_of_last start (first ∷ ms) ≡ m.end
end_of_more start first [] m is = ap (λ (one : Match). one.end) (some_injective first m is)
end_of_more start first (next ∷ ms) m is = end_of_more first.end next ms m is

pub end_of_last_is : (ms : List Match) (found : Option Match) → found ≡ slice_get ms (length ms - 1)
    → end_of_last 0 ms ≡ option_map_or (λ (m : Match). m.end) found 0
end_of_last_is [] found is = rw is refl
end_of_last_is (first ∷ ms) None is =
    let last : suc (length ms) - 1 ≡ length ms = omega arith in
    absurd (by_cases (slice_get_cases (first ∷ ms) (length ms)).1
    (λ some. let none : None ≡ Some some.0 = rw last at is ∙ some.2 in cc)
    (λ past. omega (arith, past.0)))
end_of_last_is (first ∷ ms) (Some m) is =
    let last : suc (length ms) - 1 ≡ length ms = omega arith in
    end_of_more 0 first ms m (rw last at (sym is))

pub drop_within : {X : Type 0} (n : ℕ) (xs : List X) → drop (min n (length xs)) xs ≡ drop n xs
drop_within n xs = by_cases (cases_lt (length xs) n)
    (λ past. let all : min n (length xs) ≡ length xs = omega (arith, past) in
    rw all (drop_all (length xs) xs (omega arith) ∙ sym (drop_all n xs (omega (arith, past)))))
    (λ within. let is : min n (length xs) ≡ n = omega (arith, within) in rw is refl)
