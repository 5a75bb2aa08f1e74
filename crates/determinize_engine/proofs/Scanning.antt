-- A search of a text in pieces: its value and its match are those of the pieces together.
-- Main statements: scan-piece, last-whole, settled, read_none.
-- Used by: `feed`, `finish` and `is_over` of `determinize_lazy`, and its searches.
-- Idea: the last match over two pieces is that of the second from the value after the first, or else that of the first.
use Rattle.determinize_core.proofs.Common.{[], ap, append_assoc, arith, between, Bool, by_test, chain, false, future}
use Rattle.determinize_core.proofs.Common.{HalfMatch, last_match, length, length-append, length-map, List, map}
use Rattle.determinize_core.proofs.Common.{map-append, MatchKind, Nfa, None, Option, option_map, option_or, refl, Some}
use Rattle.determinize_core.proofs.Common.{start_value, step, suc, sym, true, units, Value, value_after, ℕ, ◌++◌, ◌+◌}
use Rattle.determinize_core.proofs.Common.{◌∙◌, ◌∷◌, ◌≡◌}
use Rattle.determinize_core.proofs.walk.UnitLists.{units_are}
use Rattle.determinize_engine.proofs.Later.{last_from-first, last_from-next, last_from-over, none_left}
use Rattle.determinize_engine.specs.Private.Later.{last_from, later_by}
use Rattle.determinize_engine.specs.Scans.{IsScan, IsSettled, Scanned}
use Rattle.determinize_engine.specs.UnitsRead.{is_last, units_read}
use Rattle.std.proofs.Common.{add-zero}

-- nothing is read after a value at which the search ends
pub read_none : (f : Value → Option ℕ → Value) (earliest : Bool) (v : Value) (us : List (Option ℕ))
    → is_last earliest v ≡ true → units_read f earliest v us ≡ []
read_none f earliest v [] h = refl
read_none f earliest v (u ∷ us) h = rw h refl

module _ (nfa : Nfa) (kind : MatchKind) where
  -- the value at which a search over units ends
  abbrev ends_at : Value → List (Option ℕ) → Value
  ends_at v us = value_after nfa kind v (units_read (step nfa kind) false v us)

  -- that of a search over more units
  ends_at-append : (us vs : List (Option ℕ)) (v : Value) → ends_at v (us ++ vs) ≡ ends_at (ends_at v us) vs
  ends_at-append [] vs v = refl
  ends_at-append (u ∷ us) vs v = grind (arith, read_none (step nfa kind), ends_at-append us vs (step nfa kind v u))

  -- the last match over more units
  last_from-append : (us vs : List (Option ℕ)) (n : ℕ) (last : Option HalfMatch) (v : Value)
      → last_from nfa kind n last v (us ++ vs)
      ≡ last_from nfa kind (n + length us) (last_from nfa kind n last v us) (ends_at v us) vs
  last_from-append [] vs n last v = rw add-zero refl
  last_from-append (u ∷ us) vs n last v =
      let sum : n + suc (length us) ≡ n + 1 + length us = omega arith in
      by_test (is_last false v)
      (λ over. let none = none_left v.states over in rw over (last_from-over nfa kind n last v (u ∷ us ++ vs) none
      ∙ sym (last_from-over nfa kind (n + suc (length us)) _ v vs none
      ∙ last_from-over nfa kind n last v (u ∷ us) none)))
      (λ more. rw (more, sum, last_from-next nfa kind n last v u us)
      (last_from-next nfa kind n last v u (us ++ vs) ∙ last_from-append us vs (n + 1) _ (step nfa kind v u)))

module _ {nfa : Nfa} {kind : MatchKind} {start : ℕ} {behind : Option ℕ} {bytes : List ℕ} {s : Scanned}
    (is : IsScan nfa kind start behind bytes s) where
  abbrev first : Value
  first = start_value nfa start behind

  -- the last match of a text, from that of the bytes that were scanned
  pub last-scanned : (vs : List (Option ℕ)) → last_match (future nfa kind first (map Some bytes ++ vs))
      ≡ last_from nfa kind s.read s.last s.state vs
  last-scanned vs =
      let size : 0 + length (map Some bytes) ≡ length bytes = omega (arith, length-map bytes Some) in
      rw (is.state, is.last, is.read) (sym (last_from-first nfa kind first (map Some bytes ++ vs))
      ∙ last_from-append nfa kind (map Some bytes) vs 0 None first
      ∙ rw (size, last_from-first nfa kind first (map Some bytes)) refl)

  -- one piece more
  pub scan-piece : (piece : List ℕ) {found : Option HalfMatch} {new : Scanned}
      → found ≡ last_match (future nfa kind s.state (map Some piece))
      → new.state ≡ ends_at nfa kind s.state (map Some piece)
      → new.last ≡ option_or (option_map (later_by s.read) found) s.last → new.read ≡ s.read + length piece
      → IsScan nfa kind start behind (bytes ++ piece) new
  scan-piece piece {found} {new} found_is state_is last_is read_is = record {
    state = rw (
      map-append Some bytes piece,
      ends_at-append nfa kind (map Some bytes) (map Some piece) first,
      ← is.state,
    ) state_is;
    last = rw (map-append Some bytes piece) (last_is
        ∙ ap (λ o. option_or (option_map (later_by s.read) o) s.last) found_is
        ∙ sym (last-scanned (map Some piece)));
    read = omega (arith, read_is, is.read, length-append bytes piece);
  }

  -- a scan without an NFA state is settled
  pub settled : s.state.states ≡ [] → IsSettled nfa kind start behind bytes s.last
  unfolding chain
  settled none more ahead =
      let rest : List (Option ℕ) = map Some more ++ ahead ∷ [] in
      let units_of : units (between behind (bytes ++ more) ahead) ≡ map Some bytes ++ rest =
      units_are behind ahead (bytes ++ more) ∙ rw (map-append Some bytes more, append_assoc) refl in
      sym (ap (λ us. last_match (future nfa kind first us)) units_of ∙ last-scanned rest
      ∙ last_from-over nfa kind s.read s.last s.state rest none)

  -- the match of the whole text, from that of its rest
  pub last-whole : {found rest : Option HalfMatch} (ahead : Option ℕ)
      → rest ≡ last_match (future nfa kind s.state (ahead ∷ []))
      → found ≡ option_or (option_map (later_by s.read) rest) s.last
      → found ≡ last_match (chain nfa kind start (between behind bytes ahead))
  unfolding chain
  last-whole ahead rest_is found_is =
      found_is ∙ ap (λ o. option_or (option_map (later_by s.read) o) s.last) rest_is
      ∙ sym (ap (λ us. last_match (future nfa kind first us)) (units_are behind ahead bytes)
      ∙ last-scanned (ahead ∷ []))
