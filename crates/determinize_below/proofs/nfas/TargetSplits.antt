-- Classes of bytes that are split by the targets of a state, target by target.
-- Main statements: splitting_begin, splitting_held, splitting_more, splitting_all.
-- Used by: `Partition::split_targets`.
-- Idea: a byte has the target of the least byte of its class, and if it has one, its class has no byte above all
-- that have one; a split by the target of a byte keeps this for those before it.
use Rattle.determinize_below.specs.Private.Partition.{ArePartition, AreSplit, AreTogether}
use Rattle.determinize_below.proofs.Common.{◌≡◌, ◌≢◌, ℕ, ◌+◌, ◌<◌, ◌≤◌, Bool, List, arith, by_cases, cases_lt}
use Rattle.determinize_below.proofs.Common.{get_or, None, Option, refl}
use Rattle.determinize_below.proofs.Common.{sym, ◌∙◌, below_more, Decides, ap}
use Rattle.determinize_below.proofs.nfas.Partitions.{least_alike, least_below, least_same, split_partition, together}
use Rattle.ordered_reach.proofs.Cases.{by_option}
use Rattle.std.proofs.lemmas.Bool.Decides.{same_from_decides}

-- classes that are split by some values of a function, by those of the first n bytes at least, where no byte above
-- `high` has a value
pub record IsSplitting {A : Type 0} (f : ℕ → Option A) (old : List ℕ) (high n : ℕ) (new : List ℕ) : Type 0 where
  pub classes : ArePartition new
  pub within : (b c : ℕ) → b < 256 → c < 256 → get_or new b 0 ≡ get_or new c 0 → get_or old b 0 ≡ get_or old c 0
  pub whole : (b c : ℕ) → b < 256 → c < 256 → AreTogether old f b c → get_or new b 0 ≡ get_or new c 0
  pub done : (b : ℕ) → b < n → f (get_or new b 0) ≡ f b
  pub above : (b : ℕ) → b < n → f b ≢ None → (c : ℕ) → high < c → c < 256 → get_or new c 0 ≢ get_or new b 0

module _ {A : Type 0} (f : ℕ → Option A) (old : List ℕ) (high : ℕ) where
  pub splitting_begin : ArePartition old → (n : ℕ) → n ≤ 256 → ((b : ℕ) → b < n → f b ≡ None)
      → IsSplitting f old high n old
  splitting_begin p n few none = record {
    classes = p;
    within = λ b c h k e. e;
    whole = λ b c h k t. t.class;
    done = λ b h. let low : get_or old b 0 ≤ b = p.first b b (omega arith) (omega arith) refl in
        none _ (omega arith) ∙ sym (none b h);
    above = λ b h d. absurd (d (none b h));
  }

  module _ (n : ℕ) (new : List ℕ) (s : IsSplitting f old high n new) where
    pub splitting_held : f (get_or new n 0) ≡ f n
        → (f n ≢ None → (c : ℕ) → high < c → c < 256 → get_or new c 0 ≢ get_or new n 0)
        → IsSplitting f old high (n + 1) new
    splitting_held same apart = record {
      classes = s.classes;
      within = s.within;
      whole = s.whole;
      done = below_more _ _ s.done same;
      above = below_more _ _ s.above apart;
    }

    module _ (is_byte : n < 256) (g : ℕ → Bool) (next : List ℕ) (t : AreSplit g new next)
        (decides : (b : ℕ) → b < 256 → Decides (g b) (f b ≡ f n)) where
      parted : (b c : ℕ) → b < 256 → c < 256 → get_or next b 0 ≡ get_or next c 0 → AreTogether new g b c
      parted = least_alike (AreTogether new g) (together new g) next t

      low : (b : ℕ) → b < 256 → get_or next b 0 ≤ b
      low = least_below (AreTogether new g) (together new g) next t

      pub splitting_more : ((b : ℕ) → b < 256 → high < b → f b ≡ None) → IsSplitting f old high (n + 1) next
      splitting_more none = record {
        classes = split_partition g new next t;
        within = λ b c h k e. s.within b c h k (parted b c h k e).class;
        whole = λ b c h k u. least_same (AreTogether new g) (together new g) next t b c h k record {
          class = s.whole b c h k u;
          value = same_from_decides _ _ (decides b h) (rw (sym u.value) at (decides c k));
        };
        done = below_more _ _
            (λ b h. let a = t.alike b (omega arith) in
            sym (s.done (get_or next b 0) (omega (arith, low b (omega arith)))) ∙ ap f a.class ∙ s.done b h)
            ((decides (get_or next n 0) (omega (arith, low n is_byte))).0
            ((t.alike n is_byte).value ∙ (decides n is_byte).1 refl));
        above = below_more _ _
            (λ b h d c k l e. s.above b h d c k l (parted c b l (omega arith) e).class)
            (λ d c k l e. let same = (decides c l).0 ((parted c n l is_byte e).value ∙ (decides n is_byte).1 refl) in
            d (sym same ∙ none c l k));
      }

  -- where no byte of a value is above the greatest of these
  pub splitting_all : (n : ℕ) (new : List ℕ) → high < n → ((b : ℕ) → b < 256 → high < b → f b ≡ None)
      → IsSplitting f old high n new → AreSplit f old new
  splitting_all n new all none s = record {
    count = s.classes.count;
    alike = λ b h.
        let low : get_or new b 0 ≤ b = s.classes.first b b h (omega arith) refl in
        record {
          class = s.within _ b (omega arith) h (s.classes.alike b h);
          value = by_cases (cases_lt b n) (s.done b) (λ l. by_cases (cases_lt (get_or new b 0) n)
              (λ m. by_option (f (get_or new b 0)) (λ e. e ∙ sym (none b h (omega arith)))
              (λ a e. let some : f (get_or new b 0) ≢ None = λ d. cc in
              absurd (s.above (get_or new b 0) m some b (omega arith) h (sym (s.classes.alike b h)))))
              (λ m. none _ (omega arith) (omega arith) ∙ sym (none b h (omega arith))));
        };
    first = λ b c h k t. s.classes.first b c h k (s.whole c b (omega arith) h t);
  }
