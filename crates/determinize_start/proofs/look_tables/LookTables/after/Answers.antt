use Rattle.determinize_start.proofs.Common.{ap, eqb-true, false, has_line, sym, Tables, ◌∙◌, ◌≡◌, byte_of}
use Rattle.determinize_start.proofs.tables.NoAssertions.{after-nothing, after-words}
use Rattle.determinize_start.proofs.look_tables.LookTables.after.Goals.{Then-not-line}
use Rattle.determinize_start.proofs.look_tables.LookTables.after.Goals as goal

pub returns-then-is_empty : goal.returns-then-is_empty
returns-then-is_empty c =
    let none = sym (ap (λ (t : Tables). t.any) c.self.view_is) ∙ eqb-true c.self.inside.any 0
    (sym c.is_empty.ensures.value ∙ c.if-is_empty.true) in
    let after = after-nothing c.args.self (byte_of c.args.unit) none in
    record {
      looks = c.nothing.ensures.looks ∙ after.0;
      from_word = c.nothing.ensures.from_word ∙ after.1;
      half_crlf = c.nothing.ensures.half_crlf ∙ after.2;
    }

-- the NFA has no line assertions
unlined : (c : Then-not-line) → has_line c.args.self.any ≡ false
unlined c =
    ap has_line (sym (ap (λ (t : Tables). t.any) c.self.view_is)) ∙ sym c.contains_anchor_line-line.ensures
    ∙ c.if-not-line.true

pub returns-then-not-line-clause-looks : goal.returns-then-not-line-clause-looks
returns-then-not-line-clause-looks c =
    c.words-behind.ensures.looks
    ∙ rw c.is_word_unit.ensures (after-words c.args.self (byte_of c.args.unit) (unlined c)).0

pub returns-then-not-line-clause-half_crlf : goal.returns-then-not-line-clause-half_crlf
returns-then-not-line-clause-half_crlf c =
    c.words-behind.ensures.half_crlf ∙ (after-words c.args.self (byte_of c.args.unit) (unlined c)).1
