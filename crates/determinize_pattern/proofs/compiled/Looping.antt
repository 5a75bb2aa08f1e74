-- What the compiler adds for a loop.
-- Main statements: set_first, first_two, plus_compiled, nested_compiled, again_begun.
-- Used by: the proofs of `part`.
-- Idea: the place of the state of the loop is not written until its body is, so nothing is said of it before.
use Rattle.std.specs.Prelude.{slice_index, slice_index_or}
use Rattle.std.proofs.Common.{◌≡◌, ◌+◌, ◌<◌, ◌∙◌, ◌∷◌, ℕ, Bool, List, [], ap, arith, drop, false, get_or-drop, get_or-set_other, get_or-set_same, length, length-drop, length-set, refl, set, suc, sym, true, zero}
use Rattle.std.proofs.lemmas.List.{get_or_past, get_or_push, length_push}
use Rattle.ordered_reach.proofs.Cases.{by_cases}
use Rattle.determinize_below.specs.Semantics.{Fail, Nfa, Text, Union, state_at}
use Rattle.determinize_nfa.specs.Builder.{BuilderValue, closed, with_node}
use Rattle.determinize_pattern.proofs.compiled.Compiling.{reading_entry}
use Rattle.determinize_pattern.proofs.compiled.Growing.{continues_old, extends_then, grown, is_written}
use Rattle.determinize_pattern.proofs.entries.Leaves.{empty_entry}
use Rattle.determinize_pattern.proofs.entries.Loops.{plus_entry}
use Rattle.determinize_pattern.proofs.entries.Parts.{or_entry}
use Rattle.determinize_pattern.specs.Meaning as re
use Rattle.determinize_pattern.specs.Meaning.{Re}
use Rattle.determinize_pattern.specs.Patterns.{optional}
use Rattle.determinize_pattern.specs.Private.Compiling.{AlwaysReads, Continues, Extends, IsBegun, IsCompiled, IsUnread}
use Rattle.determinize_pattern.specs.Private.Entries.{IsEntry, in_order}

-- the first two of the ids of a loop in a loop
pub set_first : (ids : List ℕ) (id : ℕ) → 1 < length ids → set ids 0 id ≡ id ∷ slice_index ids 1 ∷ drop 2 ids
set_first [] id l = absurd (omega (arith, l))
set_first (x ∷ []) id l = absurd (omega (arith, l))
set_first (x ∷ y ∷ ids) id l = refl

pub first_two : (ids : List ℕ) (next : ℕ) → 1 < length ids → next ≡ slice_index ids 0
    → ids ≡ next ∷ slice_index ids 1 ∷ drop 2 ids
first_two [] next l e = absurd (omega (arith, l))
first_two (x ∷ []) next l e = absurd (omega (arith, l))
first_two (x ∷ y ∷ ids) next l e = rw e refl

module _ (greedy : Bool) (a : Re) (old held mid body new : BuilderValue) (rest bs : List ℕ) (again unread next : ℕ)
    (e : again ≡ length old.states) (f : held ≡ with_node old (Union []))
    (u : IsUnread held mid a unread) (h : IsCompiled 1 mid body a (again ∷ unread ∷ rest) bs)
    (g : new ≡ closed body again (in_order greedy (slice_index bs 1) next)) where
  alternates : List ℕ
  alternates = in_order greedy (slice_index bs 1) next

  last : BuilderValue
  last = closed body again alternates

  from_held : Extends held body
  from_held = extends_then held mid body u.extends h.extends

  from_old : Extends old body
  from_old = extends_then old held body (rw f (grown old (Union []))) from_held

  more : length held.states ≡ length old.states + 1
  more = rw f (length_push old.states (Union []))

  inside : again < length body.states
  inside = omega (arith, more, e, from_held.longer)

  place : slice_index_or body.states again Fail ≡ Union []
  place = from_held.kept again (omega (arith, more, e))
      ∙ rw f (get_or_push old.states (Union []) Fail again (sym e))

  long : length last.states ≡ length body.states
  unfolding last
  long = length-set body.states again (Union alternates)

  all : Extends old last
  unfolding last
  all = record {
    longer = omega (arith, from_old.longer, long);
    kept = λ q l. get_or-set_other body.states again q (Union alternates) Fail (omega (arith, e)) ∙ from_old.kept q l;
    terminator = from_old.terminator;
  }

  before : (nfa : Nfa) → Continues last nfa → Continues body nfa
  unfolding last
  before nfa k = record {
    states = λ q l w.
        let z : slice_index_or last.states q Fail ≡ slice_index_or body.states q Fail
        = get_or-set_other body.states again q (Union alternates) Fail
        (λ y. w (ap (λ x. slice_index_or body.states x Fail) y ∙ place)) in
        k.states q (omega (arith, long)) (λ y. w (sym z ∙ y)) ∙ z;
    terminator = k.terminator;
    forward = k.forward;
  }

  loops : (nfa : Nfa) → Continues last nfa → state_at nfa again ≡ Union alternates
  unfolding last alternates
  loops nfa k =
      let loop : slice_index_or last.states again Fail ≡ Union alternates
      = get_or-set_same body.states again (Union alternates) Fail inside in
      k.states again (omega (arith, long, inside)) (λ y. is_written greedy _ _ (sym loop ∙ y)) ∙ loop

  -- the body, whose later rounds fail if they read nothing
  round : (nfa : Nfa) → Continues last nfa → (text : Text)
      → (fail : ℕ) × (state_at nfa fail ≡ Fail) × IsEntry nfa text a again fail (slice_index bs 1)
  round nfa k text =
      let in_body : IsEntry nfa text a again unread (slice_index bs 1)
      = h.each nfa (before nfa k) text 1 (omega arith) (omega arith) in
      by_cases u.fails
      (λ r. (
        length nfa.states,
        get_or_past nfa.states (length nfa.states) Fail (omega arith),
        reading_entry nfa text a again unread (length nfa.states) (slice_index bs 1) r in_body,
      ))
      (λ m. (unread, m nfa (continues_old mid body h.extends nfa (before nfa k)), in_body))

  -- what each entry of the body is an entry of
  entered : (nfa : Nfa) → Continues last nfa → (text : Text) (k : ℕ) → k < suc (length rest)
      → IsEntry nfa text (re.Plus greedy a) next (slice_index (unread ∷ rest) k) (slice_index bs (suc k))
  unfolding alternates
  entered nfa c text k l =
      let r = round nfa c text in
      plus_entry nfa text greedy a next again r.0 (slice_index bs 1) (loops nfa c) r.1 r.2
      (slice_index (unread ∷ rest) k) (slice_index bs (suc k))
      (h.each nfa (before nfa c) text (suc k) (omega arith) (omega (arith, l)))

  pub plus_compiled : (first : ℕ) (ids es : List ℕ) → ids ≡ rest → next ≡ slice_index ids 0 → es ≡ drop 2 bs
      → IsCompiled first old new (re.Plus greedy a) ids es
  unfolding alternates last
  plus_compiled first ids es i n d = rw (i, g) (record {
    extends = all;
    len = ap length d ∙ length-drop 2 bs ∙ omega (arith, h.len);
    each = λ nfa c text k w l.
        let z : 2 + k ≡ suc (suc k) = omega arith in
        let is : slice_index es k ≡ slice_index bs (suc (suc k))
        = ap (λ (xs : List ℕ). slice_index xs k) d ∙ get_or-drop 2 bs k 0 ∙ ap (slice_index bs) z in
        rw (is, sym (rw i at n)) (entered nfa c text (suc k) (omega (arith, l)));
  })

  -- the entries of the body, of which one was that of the later rounds already
  pub nested_compiled : (first : ℕ) (ids : List ℕ) → 0 < first → ids ≡ next ∷ unread ∷ rest
      → IsCompiled first old new (re.Plus greedy a) ids bs
  unfolding alternates last
  nested_compiled first ids some i = rw (i, g) (record {
    extends = all;
    len = h.len;
    each = λ nfa c text k w l. at nfa c text k (omega (arith, some, w)) l;
  })
    where
      at : (nfa : Nfa) → Continues last nfa → (text : Text) (k : ℕ) → 0 < k → k < suc (suc (length rest))
          → IsEntry nfa text (re.Plus greedy a) next (slice_index (next ∷ unread ∷ rest) k) (slice_index bs k)
      at nfa c text zero m l = absurd (omega arith)
      at nfa c text (suc k) m l = entered nfa c text k (omega (arith, l))

  -- where the body reads, the state of the loop is the choice between a first round and none
  pub again_begun : AlwaysReads a → IsBegun old new (optional greedy (re.Plus greedy a)) next again
  unfolding alternates last
  again_begun q = rw g (record {
    extends = all;
    entry = λ nfa c text.
        let r = round nfa c text in
        let later = slice_index bs 1 in
        choose greedy nfa text next later (loops nfa c)
        (plus_entry nfa text greedy a next again r.0 later (loops nfa c) r.1 r.2 next later
        (reading_entry nfa text a again r.0 next later q r.2));
  })
    where
      choose : (w : Bool) (nfa : Nfa) (text : Text) (next later : ℕ)
          → state_at nfa again ≡ Union (in_order w later next)
          → IsEntry nfa text (re.Plus greedy a) next next later
          → IsEntry nfa text (optional w (re.Plus greedy a)) next next again
      choose true nfa text next later e f =
          or_entry nfa text (re.Plus greedy a) re.Empty next next later next again f (empty_entry nfa text next) e
      choose false nfa text next later e f =
          or_entry nfa text re.Empty (re.Plus greedy a) next next next later again (empty_entry nfa text next) f e
