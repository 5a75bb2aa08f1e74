-- A walk from a position of a text is one over the rest of the text.
-- Main statements: rest_along, rest_listed.
-- Used by: Preferred, Longest.
-- Idea: the units from a position on are those of the rest of the text, where offsets are less.
use Rattle.std.proofs.Common.{◌≡◌, ◌≤◌, ◌+◌, ◌++◌, ◌∙◌, ℕ, List, Some, [], ◌∷◌, ap, arith, length}
use Rattle.std.proofs.Common.{map, refl, subst, suc, sym, true}
use Rattle.std.specs.Prelude.{All, drop, option_map}
use Rattle.std.proofs.lemmas.List.{drop-append-le, drop-map, length-map}
use Rattle.std.proofs.lemmas.List.Elements.{All-drop}
use Rattle.determinize_below.specs.Nfa.{IsAccepted}
use Rattle.determinize_below.specs.Semantics.{Nfa, Text, before_at}
use Rattle.determinize_below.specs.Truth.{IsUnit}
use Rattle.determinize_below.specs.declared.search.HalfMatch.{HalfMatch}
use Rattle.determinize_below.specs.declared.search.MatchKind.{MatchKind}
use Rattle.determinize_core.specs.Chain.{units}
use Rattle.determinize_core.specs.Walk.{last_listed}
use Rattle.determinize_dense.specs.Dfa.{IsDfaOf}
use Rattle.determinize_dense.specs.Reading.{ListsAlong, lists_along}
use Rattle.determinize_dense.specs.Table.{Table, start_row}
use Rattle.determinize_dense.proofs.Along.{along_text}
use Rattle.determinize_engine.proofs.Texts.{units_listed}
use Rattle.determinize_nfa.specs.Runs.{since}
use Rattle.determinize_linear.specs.Private.Following.{following}

-- the units of the rest of a text
units-since : (text : Text) (k : ℕ) → k ≤ length text.bytes → drop k (units text) ≡ units (since text k)
units-since text k l =
    let within : k ≤ length (map Some text.bytes) = omega (arith, length-map text.bytes Some, l) in
    ap (λ us. drop k us) (units_listed text)
    ∙ drop-append-le k (map Some text.bytes) (text.ahead ∷ []) within
    ∙ ap (λ us. us ++ text.ahead ∷ []) (drop-map Some k text.bytes)
    ∙ sym (units_listed (since text k))

-- a match, some positions later
abbrev pub later : ℕ → HalfMatch → HalfMatch
later k m = record m { offset = k + m.offset }

listed-later : (k n : ℕ) (ls : List (List ℕ)) → last_listed (k + n) ls ≡ option_map (later k) (last_listed n ls)
listed-later k n [] = refl
listed-later k n (ps ∷ ls) = grind (arith, listed-later k (suc n) ls)

module _ (nfa : Nfa) (d : Table) (text : Text) (k : ℕ) (within : k ≤ length text.bytes) where
  -- the lists of the rows of an anchored walk over the rest of the text
  abbrev pub rest_lists : List (List ℕ)
  rest_lists = lists_along d (start_row nfa d true (before_at text k)) (units (since text k))

  pub rest_along : (kind : MatchKind) → IsAccepted nfa → IsDfaOf nfa kind d → IsUnit (before_at text k)
      → All IsUnit (units text) → ListsAlong nfa kind nfa.start_anchored (since text k) rest_lists
  rest_along kind accepted means behind all =
      let rest : All IsUnit (units (since text k))
      = subst (λ us. All IsUnit us) (units-since text k within) (All-drop IsUnit k (units text) all) in
      along_text nfa kind d accepted means true (since text k) behind rest nfa.start_anchored refl

  -- the last match that follows the anchored start at a position
  pub rest_listed : following d text k (start_row nfa d true (before_at text k))
      ≡ option_map (later k) (last_listed 0 rest_lists)
  rest_listed =
      let z : k ≡ k + 0 = omega arith in
      ap (λ us. last_listed k (lists_along d (start_row nfa d true (before_at text k)) us)) (units-since text k within)
      ∙ ap (λ n. last_listed n rest_lists) z ∙ listed-later k 0 rest_lists
