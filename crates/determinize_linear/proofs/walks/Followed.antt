-- A walk from a position, one step after another.
-- Main statements: followed_start, followed_step, followed_mark, followed_all, followed_end, following-done,
-- following-dead, following-none, following-marked.
-- Used by: Walked, and `new_marks`.
-- Idea: what follows the marked pairs is what follows the pair where the walk is, until a match is listed.
use Rattle.std.proofs.Common.{◌≡◌, ◌<◌, ◌≤◌, ◌*◌, ◌+◌, ◌&&◌, ◌∙◌, ◌⊎◌, ℕ, List, None, Option, Some, [], ◌∷◌, ap, arith, inl}
use Rattle.std.proofs.Common.{inr, length, nat_eq, refl, slice_get, suc, sym, true}
use Rattle.std.proofs.lemmas.Bool.Decides.{nat_tests}
use Rattle.ordered_reach.proofs.Cases.{by_test}
use Rattle.std.specs.Option.{option_or}
use Rattle.std.specs.Prelude.{All, drop}
use Rattle.std.proofs.lemmas.List.Elements.{All-drop, All-head, All-tail}
use Rattle.ordered_reach.proofs.lists.Pieces.{option_or-None, option_or-assoc}
use Rattle.determinize_below.specs.Semantics.{Text}
use Rattle.determinize_below.specs.Truth.{IsUnit}
use Rattle.determinize_below.specs.declared.search.HalfMatch.{HalfMatch}
use Rattle.determinize_core.specs.Chain.{units}
use Rattle.determinize_core.specs.LastMatch.{ended_at}
use Rattle.determinize_core.specs.Walk.{last_listed}
use Rattle.determinize_dense.specs.Reading.{IsDead, lists_along}
use Rattle.determinize_dense.specs.Table.{Table, patterns_at, row_over}
use Rattle.determinize_dense.proofs.Along.{lists_along-done, lists_along-more}
use Rattle.determinize_linear.specs.Private.Following.{NoneFollows, following}
use Rattle.determinize_linear.specs.Private.Paid.{end_of}
use Rattle.determinize_linear.specs.Private.RowMarks.{HasBits, HasMark, RowMarks, bit_of, is_set}
use Rattle.determinize_linear.specs.Private.Walks.{IsFollowed}
use Rattle.determinize_linear.proofs.walks.Unset.{is_set-with}

-- no match is listed along units from a row that none follows
none_along : (d : Table) (us : List (Option ℕ)) (r n : ℕ) → IsDead d r → All IsUnit us
    → last_listed n (lists_along d r us) ≡ None
none_along d [] r n dead all = refl
none_along d (u ∷ us) r n dead all =
    let unit = All-head IsUnit u us all in
    let here : patterns_at d (row_over d r u) ≡ [] = dead (u ∷ []) (λ k e l. grind (arith, unit)) in
    let later : last_listed (suc n) (lists_along d (row_over d r u) us) ≡ None =
    none_along d us (row_over d r u) (suc n) (λ vs units. dead (u ∷ vs) (grind (arith, unit, units)))
    (All-tail IsUnit u us all) in
    rw (later, here) refl

module _ (d : Table) (text : Text) where
  -- a step
  following-more : (at row : ℕ) (u : Option ℕ) → slice_get (units text) at ≡ Some u
      → following d text at row
      ≡ option_or (following d text (at + 1) (row_over d row u)) (ended_at at (patterns_at d (row_over d row u)))
  following-more at row u is =
      let e : suc at ≡ at + 1 = omega arith in
      ap (λ ls. last_listed at ls) (lists_along-more d row at (units text) u is)
      ∙ ap (λ k. option_or (last_listed k (lists_along d (row_over d row u) (drop (at + 1) (units text))))
      (ended_at at (patterns_at d (row_over d row u)))) e

  -- where no match follows: at the end of the text, in the dead row, and at a marked pair
  pub following-done : (at row : ℕ) → length (units text) ≤ at → following d text at row ≡ None
  following-done at row past = ap (λ ls. last_listed at ls) (lists_along-done d row at (units text) past)

  pub following-dead : (at row : ℕ) → All IsUnit (units text) → IsDead d row → following d text at row ≡ None
  following-dead at row all dead =
      none_along d (drop at (units text)) row at dead (All-drop IsUnit at (units text) all)

  pub following-none : (at row next : ℕ) (u : Option ℕ) → slice_get (units text) at ≡ Some u → next ≡ row_over d row u
      → patterns_at d next ≡ [] → following d text at row ≡ following d text (at + 1) next
  following-none at row next u unit goes none =
      let step : following d text at row
      ≡ option_or (following d text (at + 1) next) (ended_at at (patterns_at d next))
      = rw goes (following-more at row u unit) in
      let same : option_or (following d text (at + 1) next) (ended_at at (patterns_at d next))
      ≡ following d text (at + 1) next = rw none (option_or-None (following d text (at + 1) next)) in
      step ∙ same

  pub followed_start : (m : RowMarks) (from row : ℕ) → NoneFollows d text from m
      → IsFollowed d text m from from row None (following d text from row)
  followed_start m from row none = record {
    so_far = rw (option_or-None) refl;
    low = omega arith;
    order = omega arith;
    spent = λ p r l n b e. inl (none p r l n b e);
  }

  module _ (m : RowMarks) (from at row : ℕ) (found all : Option HalfMatch)
      (is : IsFollowed d text m from at row found all)
    where
      -- a step
      pub followed_step : (next : ℕ) (u : Option ℕ) (now : Option HalfMatch) → slice_get (units text) at ≡ Some u
          → next ≡ row_over d row u → now ≡ option_or (ended_at at (patterns_at d next)) found
          → IsFollowed d text m from (at + 1) next now all
      followed_step next u now unit goes is_now = go (patterns_at d next) refl
        where
          rest : option_or (following d text (at + 1) next) now ≡ all
          rest = ap (λ o. option_or (following d text (at + 1) next) o) is_now
              ∙ sym (option_or-assoc (following d text (at + 1) next) (ended_at at (patterns_at d next)) found)
              ∙ ap (λ o. option_or o found) (sym (rw goes (following-more at row u unit))) ∙ is.so_far

          before : {P Q R : Type 0} (p : ℕ) → at ≤ p → P ⊎ ((p < at) × Q) → P ⊎ R
          before p l (inl a) = inl a
          before p l (inr b) = absurd (let no : p < at = b.0 in omega arith)

          still : (p r : ℕ) → following d text at row ≡ following d text (at + 1) next
              → (following d text p r ≡ None) ⊎ ((p < at) × (following d text p r ≡ following d text at row))
              → (following d text p r ≡ None) ⊎ ((p < at + 1) × (following d text p r ≡ following d text (at + 1) next))
          still p r here (inl a) = inl a
          still p r here (inr b) = inr (omega (arith, b.0), b.1 ∙ here)

          go : (ps : List ℕ) → patterns_at d next ≡ ps → IsFollowed d text m from (at + 1) next now all
          go [] e =
              let same : now ≡ found = is_now ∙ ap (λ ps. option_or (ended_at at ps) found) e in
              rw same record {
                so_far = rw same at rest;
                low = omega (arith, is.low);
                order = is.order;
                spent = λ p r l n b k. still p r (following-none at row next u unit goes e) (is.spent p r l n b k);
              }
          go (x ∷ xs) e =
              let same : now ≡ Some record { pattern = x; offset = at }
              = is_now ∙ ap (λ ps. option_or (ended_at at ps) found) e in
              rw same record {
                so_far = rw same at rest;
                low = omega arith;
                order = omega (arith, is.low, is.order);
                spent = λ p r l n b k. before p l (is.spent p r (omega (arith, is.low, l)) n b k);
              }

      -- a mark more
      pub followed_mark : (new : RowMarks) (p r : ℕ) → HasBits d (length text.bytes + 1) m
          → HasMark m (bit_of m p (r * (d.class_count + 1))) new → p < at → p ≤ length text.bytes
          → following d text p r ≡ following d text at row → IsFollowed d text new from at row found all
      followed_mark new p r has more l n here = record {
        so_far = is.so_far;
        low = is.low;
        order = is.order;
        spent = λ q s j k b e. by_test (nat_eq q p && nat_eq s r)
            (λ z. inr (grind (arith, nat_tests, z, l, here)))
            (λ z. is.spent q s j k b
            (grind (
              arith,
              z,
              e,
              is_set-with d (length text.bytes + 1) m has new p r q s more (omega arith) (omega arith),
            )));
      }

      pub following-marked : at ≤ length text.bytes → row < length d.patterns → is_set d m at row ≡ true
          → following d text at row ≡ None
      following-marked l below e = here (is.spent at row is.low l below e)
        where
          here : (following d text at row ≡ None) ⊎ ((at < at) × (following d text at row ≡ following d text at row))
              → following d text at row ≡ None
          here (inl a) = a
          here (inr b) = absurd (let no : at < at = b.0 in omega arith)

      -- a walk where no match follows
      module _ (none : following d text at row ≡ None) where
        pub followed_all : found ≡ all
        followed_all = ap (λ o. option_or o found) (sym none) ∙ is.so_far

        pub followed_end : NoneFollows d text (end_of from found) m
        followed_end p r l n b e = old (is.spent p r l n b e)
          where
            old : (following d text p r ≡ None) ⊎ ((p < at) × (following d text p r ≡ following d text at row))
                → following d text p r ≡ None
            old (inl a) = a
            old (inr b) = b.1 ∙ none
