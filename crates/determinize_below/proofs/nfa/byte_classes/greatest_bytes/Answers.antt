use Rattle.determinize_below.proofs.Common.{◌≡◌, ◌∙◌, ◌<◌, ◌≤◌, ◌+◌, ℕ, List, arith, below_more, by_cases, cases_eq, get_or}
use Rattle.determinize_below.proofs.Common.{get_or-set_other, get_or-set_same, length, length-set, set, sym}
use Rattle.determinize_below.proofs.nfa.byte_classes.greatest_bytes.Goals as goal

bound_more : (L G : List ℕ) (n first : ℕ) → first < length G → first ≡ get_or L n 0
    → ((b : ℕ) → b < n → b ≤ get_or G (get_or L b 0) 0)
    → (b : ℕ) → b < n + 1 → b ≤ get_or (set G first n) (get_or L b 0) 0
bound_more L G n first within is h = below_more _ n
    (λ b l. by_cases (cases_eq (get_or L b 0) first)
    (λ same. rw (same, get_or-set_same G first n 0 within) (omega arith))
    (λ ne. rw (get_or-set_other G first (get_or L b 0) n 0 ne) (h b l)))
    (rw (sym is, get_or-set_same G first n 0 within) (omega arith))

pub loop-byte-preserved : goal.loop-byte-preserved
loop-byte-preserved c = record {
  count = length-set _ _ _ ∙ c.loop-byte.invariant.count;
  bound = bound_more _ _ _ c.from.result (omega arith) c.from.ensures c.loop-byte.invariant.bound;
}
