-- A text is cut at one match after another, and other bytes are put in their places.
-- Main statements: kept_apart, one_part, last_part, one_more_match, one_of_each,
-- last_of_each, replaced_by, each_replaced_is_joined.
-- Used by: `split_utf8`, `split_at`, `replace_each`, `replace_all`, and `laws::parts_law`.
-- Idea: what is made of the matches so far, and then of the rest from their end on, is what is made of all.
use Rattle.determinize_regex.proofs.Common.{ap, append-nil, append_assoc, AreApart, arith, Bool, Bor, cond_both, drop}
use Rattle.determinize_regex.proofs.Common.{EachReplacedIsJoined, filter, flat_map, FoldsTo, get_or, IsReplacedBy}
use Rattle.determinize_regex.proofs.Common.{length, List, map, map-append, Match, one_more, Option, parts, refl}
use Rattle.determinize_regex.proofs.Common.{replaced, replaced_each, slice_range, Some, sym, take, take_more, [], ℕ, ◌++◌, ◌+◌, ◌<◌, ◌∙◌, ◌∷◌, ◌≡◌, ◌≤◌}

-- the matches that are left lie in the text from an index on
pub record AreLeft (text_size at : ℕ) (found : List Match) : Type 0 where
  pub inside : at ≤ text_size
  pub before : Option ℕ
  pub apart : AreApart at before text_size found

-- and those behind the next of them
pub next_left : (text_size at : ℕ) (m : Match) (ms found : List Match) → found ≡ m ∷ ms → AreLeft text_size at found
    → AreLeft text_size m.end ms
next_left text_size at m ms found is h =
    let a : AreApart at h.before text_size (m ∷ ms) = rw is at h.apart in
    record { inside = a.2; before = Some m.end; apart = a.4 }

-- matches that begin later may follow an earlier one
later_apart : (start at size : ℕ) (before : Option ℕ) (ms : List Match) → start ≤ at
    → ((last : ℕ) → before ≡ Some last → last < at) → AreApart at (Some at) size ms → AreApart start before size ms
later_apart start at size before [] low after a = tt
later_apart start at size before (m ∷ ms) low after a =
    let next : at < m.end = a.3 at refl in
    (omega (arith, low, a.0), a.1, a.2, (λ last is. let l = after last is in omega (arith, l, next)), a.4)

-- those of a list that are kept are apart, if all are
pub kept_apart : (keep : Match → Bool) (start size : ℕ) (before : Option ℕ) (ms : List Match)
    → AreApart start before size ms → AreApart start before size (filter keep ms)
kept_apart keep start size before [] a = tt
kept_apart keep start size before (m ∷ ms) a =
    let rest = kept_apart keep m.end size (Some m.end) ms a.4 in
    cond_both (keep m) _ _ (AreApart start before size)
    (λ _. (a.0, a.1, a.2, a.3, rest))
    (λ _. later_apart start m.end size before (filter keep ms) (omega (arith, a.0, a.1)) a.3 rest)

module _ {X : Type 0} (bytes : X → List ℕ) (text : List ℕ) where
  -- the parts so far, before those that are left, are all
  abbrev pub IsCut : ℕ → List Match → List X → List (List ℕ) → Type 0
  IsCut at found cut all = map bytes cut ++ parts text at found ≡ all

  pub one_part : (cut more : List X) (p : X) (all : List (List ℕ)) (at : ℕ) (m : Match) (ms found : List Match)
      → found ≡ m ∷ ms → bytes p ≡ slice_range text at m.start → more ≡ cut ++ p ∷ [] → IsCut at found cut all
      → IsCut m.end ms more all
  one_part cut more p all at m ms found rest part is h =
      one_more bytes cut all more p (slice_range text at m.start) (parts text m.end ms) is part (rw rest at h)

  pub last_part : (cut more : List X) (p : X) (all : List (List ℕ)) (at : ℕ) (found : List Match)
      → found ≡ [] → bytes p ≡ drop at text → more ≡ cut ++ p ∷ [] → IsCut at found cut all → map bytes more ≡ all
  last_part cut more p all at found none part is h =
      let so_far : map bytes cut ++ (drop at text ∷ []) ≡ all = rw none at h in
      rw (is, map-append bytes cut (p ∷ []), part) so_far

-- the matches so far, and the next one
pub one_more_match : (each : List (Match × Bor (List ℕ))) (x : Match × Bor (List ℕ)) (found : List Match) (i : ℕ)
    → i < length found → x.0 ≡ get_or found i x.0 → map (λ x. x.0) each ≡ take i found
    → map (λ x. x.0) (each ++ x ∷ []) ≡ take (i + 1) found
one_more_match each x found i l e so_far =
    rw (map-append (λ x. x.0) each (x ∷ []), so_far, take_more found i x.0 l, ← e) refl

module _ (text : List ℕ) where
  -- the bytes so far, before the rest of the text with some more replaced matches, are the text with all of them
  abbrev pub IsNewOfEach : ℕ → List (Match × Bor (List ℕ)) → List ℕ → Type 0
  IsNewOfEach at each new = (more : List (Match × Bor (List ℕ)))
      → new ++ replaced_each text at more ≡ replaced_each text 0 (each ++ more)

  pub one_of_each : (new mid later : List ℕ) (at : ℕ) (each : List (Match × Bor (List ℕ))) (x : Match × Bor (List ℕ))
      → mid ≡ new ++ slice_range text at x.0.start → later ≡ mid ++ x.1.now → IsNewOfEach at each new
      → IsNewOfEach x.0.end (each ++ x ∷ []) later
  one_of_each new mid later at each x first is h more =
      let so_far : new ++ (slice_range text at x.0.start ++ x.1.now ++ replaced_each text x.0.end more)
      ≡ replaced_each text 0 (each ++ x ∷ more) = h (x ∷ more) in
      rw (is, first) (simp append_assoc (simp append_assoc at so_far))

  pub last_of_each : (new later : List ℕ) (at : ℕ) (each : List (Match × Bor (List ℕ)))
      → later ≡ new ++ drop at text → IsNewOfEach at each new → later ≡ replaced_each text 0 each
  last_of_each new later at each is h =
      let so_far : new ++ drop at text ≡ replaced_each text 0 (each ++ []) = h [] in
      rw (append-nil each) at (is ∙ so_far)

-- where each call returns these bytes and changes nothing, they are in place of each match
module _ {F : Type 0} (Call : F → Match × Bor (List ℕ) → F → Type 0) (first : F) (by text : List ℕ)
    (same : (x : Match × Bor (List ℕ)) (next : F) → Call first x next → (x.1.now ≡ by) × (next ≡ first)) where
  each_is : (each : List (Match × Bor (List ℕ))) (now last : F) (at : ℕ) → now ≡ first → FoldsTo Call now each last
      → replaced_each text at each ≡ replaced by text at (map (λ x. x.0) each)
  each_is [] now last at is calls = refl
  each_is (x ∷ xs) now last at is calls =
      let one = same x calls.0 (rw is at calls.1) in
      rw (one.0, each_is xs calls.0 last x.0.end one.1 calls.2) refl

  pub replaced_by : (found : List Match) (new : List ℕ) → IsReplacedBy Call first found text new
      → new ≡ replaced by text 0 found
  replaced_by found new h =
      h.is ∙ each_is h.each first h.last 0 refl h.calls ∙ ap (replaced by text 0) h.matches

joined_rest : (by text : List ℕ) (at : ℕ) (found : List Match)
    → flat_map (λ (part : List ℕ). by ++ part) (parts text at found) ≡ by ++ replaced by text at found
joined_rest by text at [] = append-nil (by ++ drop at text)
joined_rest by text at (m ∷ ms) = rw (joined_rest by text m.end ms) (simp append_assoc)

pub each_replaced_is_joined : EachReplacedIsJoined
each_replaced_is_joined by text [] = sym (append-nil (drop 0 text))
each_replaced_is_joined by text (m ∷ ms) = rw (joined_rest by text m.end ms)
    (append_assoc (slice_range text 0 m.start) by (replaced by text m.end ms))
