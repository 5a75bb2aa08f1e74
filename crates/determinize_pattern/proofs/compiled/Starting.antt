-- Several patterns, each before its `Match` state, and the NFA of all.
-- Main statements: matches_more, begins_more, begins_all, finds_all, nfa_of_continued, nfa_of_built.
-- Used by: the proofs of `compile`, `compile_anchored` and of the calls that they make.
-- Idea: the prefix adds two states, and the NFA has those of the builder.
use Rattle.std.specs.List.{flat_map}
use Rattle.std.specs.Prelude.{map, nat_lt, slice_index}
use Rattle.std.proofs.Common.{◌≡◌, ◌+◌, ◌<◌, ◌++◌, ◌∙◌, ◌∷◌, ℕ, Err, IfOk, List, Ok, OnOk, Result, [], ap, arith, length, ltb-false, ltb-true, refl, suc}
use Rattle.std.proofs.lemmas.List.{get_or_append_left, get_or_push, length_push, map-append}
use Rattle.ordered_reach.proofs.Cases.{by_test}
use Rattle.determinize_below.specs.Semantics.{BinaryUnion, ByteRange, Fail, Match, Nfa, Text, Union, state_at}
use Rattle.determinize_nfa.specs.Builder.{BuilderValue, built, prefixed, with_match}
use Rattle.determinize_pattern.proofs.compiled.Growing.{continues_match, continues_old, extends_same, extends_then, is_new, match_grown}
use Rattle.determinize_pattern.proofs.entries.Leftmost.{nfa_of}
use Rattle.determinize_pattern.proofs.compiled.Heads.{Head}
use Rattle.determinize_pattern.proofs.entries.Parts.{pattern_found}
use Rattle.determinize_pattern.specs.Compiled.{IsNfaOf}
use Rattle.determinize_pattern.specs.LeftmostOf.{all_ends}
use Rattle.determinize_pattern.specs.Meaning.{Re, ends}
use Rattle.determinize_pattern.specs.declared.nfa.CompileError.{CompileError}
use Rattle.determinize_pattern.specs.Private.Compiling.{AddsMatches, BeginsAll, Continues, Extends, FindsAll}
use Rattle.determinize_pattern.specs.Patterns.{literal}
use Rattle.determinize_pattern.specs.Private.Words.{AllFind, IsHead, IsTree, Lead, all_found, words_of}

pub matches_none : (b : BuilderValue) → b.patterns ≡ 0 → AddsMatches b b []
matches_none b e = record { extends = extends_same b; patterns = e; each = λ nfa h n l. absurd (omega (arith, l)) }

pub matches_more : (old mid new : BuilderValue) (ids : List ℕ) (s : ℕ) → AddsMatches old mid ids
    → s ≡ length mid.states → new ≡ with_match mid → AddsMatches old new (ids ++ s ∷ [])
matches_more old mid new ids s h e g = rw g (record {
  extends = extends_then old mid (with_match mid) h.extends (match_grown mid);
  patterns = omega (arith, h.patterns, length_push ids s);
  each = λ nfa c n l. by_test (nat_lt n (length ids))
      (λ z. let q : n < length ids = ltb-true n (length ids) z in
      rw (get_or_append_left ids (s ∷ []) 0 n q)
      (h.each nfa (continues_old mid (with_match mid) (match_grown mid) nfa c) n q))
      (λ z. let q : length ids ≡ n = omega (arith, l, length_push ids s, ltb-false n (length ids) z) in
      let number : mid.patterns ≡ n = h.patterns ∙ q in
      rw (get_or_push ids s 0 n q, ← number)
      (is_new mid (Match mid.patterns) nfa (continues_match mid nfa c)
      (λ y. let w : Match mid.patterns ≡ Union [] = y in cc) s e));
})

map_flat_map : (n : ℕ) (f : ℕ → List ℕ) (js : List ℕ)
    → flat_map (λ j. map {B = ℕ × ℕ} (λ l. (n, l)) (f j)) js ≡ map {B = ℕ × ℕ} (λ l. (n, l)) (flat_map f js)
map_flat_map n f [] = refl
map_flat_map n f (j ∷ js) =
    rw (map-append {B = ℕ × ℕ} (λ (l : ℕ). (n, l)) (f j) (flat_map f js), map_flat_map n f js) refl

-- the patterns from the number n on begin with these words, each before its own `Match` state
abbrev pub AreStarts : Nfa → ℕ → List Re → List (List ℕ × ℕ) → Type 0
AreStarts nfa n [] [] = Unit {0}
AreStarts nfa n (re ∷ res) (w ∷ ws) =
    ((m : ℕ) × (state_at nfa m ≡ Match n) × ((text : Text) → Head nfa text re m w)) × AreStarts nfa (suc n) res ws
AreStarts nfa n _ _ = ⊥

starts_more : (nfa : Nfa) (n : ℕ) (res : List Re) (ws : List (List ℕ × ℕ)) (p : Re) (m : ℕ) (w : List ℕ × ℕ)
    → AreStarts nfa n res ws → state_at nfa m ≡ Match (n + length res) → ((text : Text) → Head nfa text p m w)
    → AreStarts nfa n (res ++ p ∷ []) (ws ++ w ∷ [])
starts_more nfa n [] [] p m w h e f = let z : n + 0 ≡ n = omega arith in ((m, rw z at e, f), tt)
starts_more nfa n [] (v ∷ ws) p m w h e f = absurd h
starts_more nfa n (re ∷ res) [] p m w h e f = absurd h
starts_more nfa n (re ∷ res) (v ∷ ws) p m w h e f =
    let z : n + suc (length res) ≡ suc n + length res = omega arith in
    (h.0, starts_more nfa (suc n) res ws p m w h.1 (rw z at e) f)

-- what is found where the word of each pattern ends
record Leads (nfa : Nfa) (text : Text) (i n : ℕ) (res : List Re) (ws : List (List ℕ × ℕ)) : Type 0 where
  leads : List (List ℕ × Lead)
  are : words_of leads ≡ ws
  find : AllFind nfa text i leads
  found : all_found nfa text i leads ≡ all_ends nfa.terminator text n res i

leads_of : (nfa : Nfa) (text : Text) (i n : ℕ) (res : List Re) (ws : List (List ℕ × ℕ)) → AreStarts nfa n res ws
    → Leads nfa text i n res ws
leads_of nfa text i n [] [] h = record { leads = []; are = refl; find = tt; found = refl }
leads_of nfa text i n [] (w ∷ ws) h = absurd h
leads_of nfa text i n (re ∷ res) [] h = absurd h
leads_of nfa text i n (re ∷ res) (w ∷ ws) h =
    let later = leads_of nfa text i (suc n) res ws h.1 in
    let head = h.0.2 text in
    let lead : Lead = record {
      state = w.1;
      found = λ j. map {B = ℕ × ℕ} (λ l. (n, l)) (ends nfa.terminator text head.rest j);
    } in
    record {
      leads = (w.0, lead) ∷ later.leads;
      are = ap (λ (vs : List (List ℕ × ℕ)). w ∷ vs) later.are;
      find = (λ j c. pattern_found nfa text head.rest h.0.0 n w.1 j h.0.1 head.entry, later.find);
      found = rw (later.found, head.same i)
          (ap (λ (xs : List (ℕ × ℕ)). xs ++ all_ends nfa.terminator text (suc n) res i)
          (map_flat_map n (ends nfa.terminator text head.rest) (ends nfa.terminator text (literal w.0) i)));
    }

-- each pattern begins with the word of its number, before its `Match` state
pub record BeginsEach (old new : BuilderValue) (matches : List ℕ) (res : List Re) (words : List (List ℕ × ℕ))
    : Type 0 where
  pub extends : Extends old new
  pub begins : (nfa : Nfa) → Continues new nfa
      → ((n : ℕ) → n < length matches → state_at nfa (slice_index matches n) ≡ Match n) → AreStarts nfa 0 res words

pub begins_none : (b : BuilderValue) (ms : List ℕ) → BeginsEach b b ms [] []
begins_none b ms = record { extends = extends_same b; begins = λ nfa h f. tt }

pub begins_more : (old mid new : BuilderValue) (ms : List ℕ) (res : List Re) (words : List (List ℕ × ℕ)) (p : Re)
    (i : ℕ) (word : List ℕ × ℕ) → BeginsEach old mid ms res words → length res ≡ i → i < length ms
    → IsHead mid new p (slice_index ms i) word → BeginsEach old new ms (res ++ p ∷ []) (words ++ word ∷ [])
begins_more old mid new ms res words p i word h e l f = record {
  extends = extends_then old mid new h.extends f.begun.extends;
  begins = λ nfa c g.
      let z : i ≡ 0 + length res = omega (arith, e) in
      starts_more nfa 0 res words p (slice_index ms i) word
      (h.begins nfa (continues_old mid new f.begun.extends nfa c) g) (rw (← z) (g i l)) (head_of nfa c f);
}
  where
    head_of : (nfa : Nfa) → Continues new nfa → IsHead mid new p (slice_index ms i) word
        → (text : Text) → Head nfa text p (slice_index ms i) word
    head_of nfa c k text =
        record { rest = k.rest; entry = k.begun.entry nfa c text; same = λ j. k.same nfa.terminator text j }

pub tree_terminator : (old new : BuilderValue) (words : List (List ℕ × ℕ)) (r : Result ℕ CompileError)
    → IfOk r (λ s. IsTree old new words s) → OnOk r (new.terminator ≡ old.terminator)
tree_terminator old new words (Ok s) h = h.extends.terminator
tree_terminator old new words (Err e) h = tt

pub begins_all : (old mid new : BuilderValue) (ms : List ℕ) (words : List (List ℕ × ℕ)) (res : List Re) (s : ℕ)
    → BeginsEach old mid ms res words → IsTree mid new words s → BeginsAll old new ms res s
begins_all old mid new ms words res s g h = record {
  extends = extends_then old mid new g.extends h.extends;
  finds = λ nfa c each text i.
      let k = leads_of nfa text i 0 res words (g.begins nfa (continues_old mid new h.extends nfa c) each) in
      rw k.found at (h.finds nfa c text k.leads k.are i k.find);
}

pub finds_all : (a b c : BuilderValue) (ms : List ℕ) (res : List Re) (s : ℕ) → AddsMatches a b ms
    → BeginsAll b c ms res s → FindsAll c res s
finds_all a b c ms res s f g nfa k text i = g.finds nfa k (f.each nfa (continues_old b c g.extends nfa k)) text i

continues_built : (b : BuilderValue) (start : ℕ) (nfa : Nfa) → nfa ≡ built (prefixed b start) start (length b.states)
    → Continues b nfa
continues_built b start nfa e = rw e (record {
  states = λ q l w. get_or_append_left b.states (BinaryUnion start (suc (length b.states))
      ∷ ByteRange record { start = 0; end = 255; next = length b.states } ∷ []) Fail q l;
  terminator = refl;
  forward = refl;
})

pub continues_without_prefix : (b : BuilderValue) (start : ℕ) (nfa : Nfa) → nfa ≡ built b start start → Continues b nfa
continues_without_prefix b start nfa e = rw e (record { states = λ q l w. refl; terminator = refl; forward = refl })

pub nfa_of_continued : (b : BuilderValue) (res : List Re) (start : ℕ) (nfa : Nfa) → FindsAll b res start
    → nfa.start_anchored ≡ start → Continues b nfa → IsNfaOf res nfa
nfa_of_continued b res start nfa f s c = nfa_of nfa res (λ text k. rw s (f nfa c text k))

pub nfa_of_built : (b : BuilderValue) (res : List Re) (start : ℕ) (nfa : Nfa) → FindsAll b res start
    → nfa ≡ built (prefixed b start) start (length b.states) → IsNfaOf res nfa
nfa_of_built b res start nfa f e =
    nfa_of_continued b res start nfa f (rw e refl) (continues_built b start nfa e)
