-- Whether a unit reopens the closure of the recorded states, and under which assertions.
-- Main statements: reopens, not_reopened, unneeded, words_decide, reopened_under.
-- Used by: `reopens`, `stays_closed`, `reopened_under`, `redo_law`, StepLaws, and the crates above.
-- Idea: by the members of the sets.
use Rattle.determinize_core.proofs.Common.{ap, arith, Assertion, Bool, each_look, false, fun_ext, has, IfNone, IfSome}
use Rattle.determinize_core.proofs.Common.{is_reopened, IsReopened, list_any, Nfa, not, opened_by, Option, refl, sym}
use Rattle.determinize_core.proofs.Common.{by_test, true, Value, ℕ, ◌&&◌, ◌||◌, ◌∙◌, ◌≡◌}
use Rattle.std.specs.Bool.{Decides, then_some}
use Rattle.determinize_below.specs.Look.{intersect, union}
use Rattle.determinize_below.proofs.looks.LookSets.{has-empty, has-intersect, has-union}
use Rattle.determinize_below.proofs.looks.CommonLooks.{each_look-false}
use Rattle.determinize_below.proofs.Common.{Any-from_list_any, both_ways, false_from_ne_true}
use Rattle.ordered_reach.proofs.lists.Pieces.{list_any_unmet}
use Rattle.determinize_below.specs.Semantics.{is_word}
use Rattle.determinize_start.specs.LookTables.{line_opened, opened, Tables, word_opened}
use Rattle.determinize_below.specs.declared.look.Look.TheVariants.{Start}
use Rattle.determinize_core.specs.Step.{is_redone}
use Rattle.determinize_core.specs.declared.determinize.reopening.TheConstants.{LINES}

-- the test on sets: `others` is what was found and is not in look-have, and some of it is needed
pub reopens : (found have need others : ℕ) (empty : Bool)
    → ((l : Assertion) → has others l ≡ (has found l && not (has have l)))
    → Decides empty ((l : Assertion) → has (intersect others need) l ≡ false)
    → not empty ≡ is_redone (has found) have need
reopens found have need others empty members decides =
    let test = λ (l : Assertion). has found l && has need l && not (has have l) in
    let same : (l : Assertion) → has (intersect others need) l ≡ test l =
    λ l. grind (arith, has-intersect others need l, members l) in
    by_test (list_any test each_look)
    (λ e. let x = Any-from_list_any test each_look e in
    ap not (false_from_ne_true empty (λ t. both_ways _ (decides.0 t x.1) (same x.1 ∙ x.4))) ∙ sym e)
    (λ e. ap not (decides.1 (λ l. same l ∙ each_look-false test e l)) ∙ sym e)

-- where the closure is not reopened, what is found true adds nothing that is needed
pub not_reopened : (found : Assertion → Bool) (have need : ℕ) (l : Assertion) → is_redone found have need ≡ false
    → has need l ≡ true → (has have l || found l) ≡ has have l
not_reopened found have need l h k =
    let e = each_look-false (λ x. found x && has need x && not (has have x)) h l in grind arith

-- where nothing is needed, the closure is not reopened
pub unneeded : (nfa : Nfa) (v : Value) (u : Option ℕ) → v.look_need ≡ 0 → is_reopened nfa v u ≡ false
unneeded nfa v u e = list_any_unmet (λ l. opened_by nfa v u l && has v.look_need l && not (has v.look_have l)) each_look
    (λ l. rw e (grind (arith, has-empty l)))

-- each haystack or line assertion that a unit satisfies is in LINES
lined : (t : Tables) (half : Bool) (u : Option ℕ) (l : Assertion)
    → (line_opened t half u l || has LINES l) ≡ has LINES l
unfolding has line_opened
lined t half u Start = refl
lined t half u l = grind arith

-- if the word assertions found, with all of LINES, reopen nothing, what the unit satisfies reopens nothing
pub words_decide : (t : Tables) (f half : Bool) (u : Option ℕ) (found have need : ℕ)
    → ((l : Assertion) → has found l ≡ word_opened f (is_word u) l)
    → is_redone (has (union found LINES)) have need ≡ false → is_redone (opened t f half u) have need ≡ false
unfolding opened
words_decide t f half u found have need words closed =
    list_any_unmet (λ l. opened t f half u l && has need l && not (has have l)) each_look (λ l.
    let e = each_look-false (λ x. has (union found LINES) x && has need x && not (has have x)) closed l in
    grind (arith, words l, has-union found LINES l, lined t half u l))

-- the set under which the closure is reopened, where it is
pub reopened_under : (nfa : Nfa) (v : Value) (u : Option ℕ) (found : ℕ) (test : Bool)
    → ((look : Assertion) → has found look ≡ opened_by nfa v u look)
    → test ≡ is_redone (has found) v.look_have v.look_need
    → record {
      none : IfNone (then_some test (union v.look_have found)) (is_reopened nfa v u ≡ false);
      some : IfSome (then_some test (union v.look_have found)) (IsReopened nfa v u);
    }
reopened_under nfa v u found true h e = record {
  none = tt;
  some = record {
    reopened = sym (rw (fun_ext h) at e);
    set_is = fun_ext (λ look. has-union v.look_have found look ∙ ap (λ b. has v.look_have look || b) (h look));
  };
}
reopened_under nfa v u found false h e = record { none = sym (rw (fun_ext h) at e); some = tt }
