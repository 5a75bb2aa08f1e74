use Rattle.determinize_core.proofs.Common.{arith, ◌∙◌}
use Rattle.determinize_stored.proofs.Files.{file_bytes, file_four, file_in, range_in, read_words, same_in, whole_of}
use Rattle.determinize_stored.specs.Private.Parts.{stored_in}
use Rattle.determinize_stored.proofs.stored.StoredDfa.from_bytes.Goals as goal

pub returns-in_err-head-clause-read : goal.returns-in_err-head-clause-read
returns-in_err-head-clause-read c = λ s whole same.
    absurd (c.in_err-head.ensures.none s whole (c.new-words.ensures ∙ read_words c.args.bytes.now s whole same))

pub returns-in_err-parts-clause-read : goal.returns-in_err-parts-clause-read
returns-in_err-parts-clause-read c = λ s whole same.
    absurd (c.in_err-parts.ensures.none s whole (c.new-words.ensures ∙ read_words c.args.bytes.now s whole same))

pub returns-in_err-check-clause-read : goal.returns-in_err-check-clause-read
returns-in_err-check-clause-read c = λ s whole same.
    absurd (c.in_err-check.ensures.err (range_in c.in_ok-head.head c.in_ok-parts.parts s c.new-words.result
    c.in_ok-head.ensures.head c.in_ok-parts.ensures.parts c.in_ok-parts.ensures.sizes whole
    (c.new-words.ensures ∙ read_words c.args.bytes.now s whole same)))

pub returns-then-bytes-ne0-clause-read : goal.returns-then-bytes-ne0-clause-read
returns-then-bytes-ne0-clause-read c = λ s whole same.
    absurd (c.if-bytes-ne0.true (file_four c.args.bytes.now s same))

pub invariant_of-result : goal.invariant_of-result
invariant_of-result c = record {
  whole = whole_of c.new-words.result c.in_ok-head.head c.in_ok-parts.parts c.in_ok-head.ensures.head
      c.in_ok-parts.ensures.sizes c.in_ok-check.ensures.ok;
  sizes = c.in_ok-parts.ensures.sizes;
  range = c.in_ok-check.ensures.ok;
  dead_row = c.has_dead_row.ensures;
}

pub returns-clause-file : goal.returns-clause-file
returns-clause-file c = file_bytes c.args.bytes.now c.new-words.result
    (stored_in c.in_ok-head.head c.in_ok-parts.parts) (λ i. omega (arith, c.type_inv.bytes i))
    c.if-bytes-ne0.false c.new-words.ensures
    (file_in c.in_ok-head.head c.in_ok-parts.parts c.in_ok-parts.ensures.sizes c.in_ok-check.ensures.ok
    c.new-words.result c.in_ok-head.ensures.head c.in_ok-parts.ensures.parts)

pub returns-clause-whole : goal.returns-clause-whole
returns-clause-whole c = whole_of c.new-words.result c.in_ok-head.head c.in_ok-parts.parts c.in_ok-head.ensures.head
    c.in_ok-parts.ensures.sizes c.in_ok-check.ensures.ok

pub returns-clause-read : goal.returns-clause-read
returns-clause-read c = λ s whole same. same_in c.in_ok-head.head c.in_ok-parts.parts s c.new-words.result
    c.in_ok-head.ensures.head c.in_ok-parts.ensures.parts c.in_ok-parts.ensures.sizes whole
    (c.new-words.ensures ∙ read_words c.args.bytes.now s whole same)
