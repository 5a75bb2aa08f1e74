use Rattle.determinize_syntax.proofs.Common.{subst}
use Rattle.determinize_syntax.specs.Private.Letters.{Listed}
use Rattle.determinize_syntax.proofs.Common.{◌∷◌, char_pairs, clash, renamed, rules}
use Rattle.determinize_syntax.proofs.Listing.{class_listed, escaped_listed, wide_listed}
use Rattle.determinize_syntax.proofs.Nexts.{escape_listed, escape_next}
use Rattle.determinize_syntax.proofs.bracket.Items.escaped.Goals.{in-Byte, in-Wide}
use Rattle.determinize_syntax.proofs.bracket.Items.escaped.Goals as goal

pub returns-in-Class-2-clause-read : goal.returns-in-Class-2-clause-read
returns-in-Class-2-clause-read c =
    rw c.in_ok-add_class-in-Class-2.ensures.before
    (renamed _ _ (rw c.in-Class-2.is at c.in_ok-escape.ensures.read) (λ t x. class_listed c.args.flags
    c.args.self.now.before c.in-Class-2.kind c.in-Class-2.negated (char_pairs c.args.self.now.ranges.items) _ (0x5C ∷ t)
    c.if-flags-2.false x (rw c.new.ensures at c.in_ok-add_class-in-Class-2.ensures.ranges)))

pub returns-in_err-escape-clause-whole : goal.returns-in_err-escape-clause-whole
returns-in_err-escape-clause-whole c u h =
    let x = escape_next c.args.flags u c.args.self.now.before _ h in
    search (rules, c.in_err-escape.ensures.whole x.1 x.2 x.3 (λ look same. absurd (rw same at x.4)))

pub returns-in-Class-2-clause-whole : goal.returns-in-Class-2-clause-whole
returns-in-Class-2-clause-whole c u h =
    let x = escape_listed c.args.flags u c.args.self.now.before _ h c.in_ok-escape.ensures.whole in
    let z = subst (λ d. Listed c.args.flags d x.0) c.in-Class-2.is x.1 in rw
    (c.in_ok-add_class-in-Class-2.ensures.before, ← z.1) x.2

pub returns-in-Look-clause-whole : goal.returns-in-Look-clause-whole
returns-in-Look-clause-whole c u h =
    let x = escape_listed c.args.flags u c.args.self.now.before _ h c.in_ok-escape.ensures.whole in
    absurd ((subst (λ d. Listed c.args.flags d x.0) c.in-Look.is x.1))

pub returns-in-Wide-2-clause-whole : goal.returns-in-Wide-2-clause-whole
returns-in-Wide-2-clause-whole c u h =
    let x = escape_listed c.args.flags u c.args.self.now.before _ h c.in_ok-escape.ensures.whole in
    let z = subst (λ d. Listed c.args.flags d x.0) c.in-Wide-2.is x.1 in clash z.0 c.if-flags.false

pub returns-in-Class-clause-whole : goal.returns-in-Class-clause-whole
returns-in-Class-clause-whole c u h =
    let x = escape_listed c.args.flags u c.args.self.now.before _ h c.in_ok-escape.ensures.whole in
    let z = subst (λ d. Listed c.args.flags d x.0) c.in-Class.is x.1 in clash c.if-flags-2.true z.0

pub returns-clause-read : goal.returns-clause-read
returns-clause-read c =
    let old = char_pairs c.args.self.now.ranges.items in
    let before = c.args.self.now.before in
    let read = c.in_ok-escape.ensures.read in
    let added = c.in_ok-add.ensures.ranges in
    rw c.in_ok-add.ensures.before (elim c.match-escape.branch [
      | in-Byte w ↦
          rw (w.character-is, w.from-character.ensures) (renamed _ _ (rw w.in-Byte.is at read)
          (λ t x. escaped_listed c.args.flags before w.in-Byte.byte old _ (0x5C ∷ t) x
          (rw (w.character-is, w.from-character.ensures) at added)))
      | in-Wide w ↦
          rw w.character-is (renamed _ _ (rw w.in-Wide.is at read)
          (λ t x. wide_listed c.args.flags before w.in-Wide.character old _ (0x5C ∷ t) w.if-flags.true x
          (rw w.character-is at added)))
    ])

pub returns-clause-whole : goal.returns-clause-whole
returns-clause-whole c u h =
    let x = escape_listed c.args.flags u c.args.self.now.before _ h c.in_ok-escape.ensures.whole in
    elim c.match-escape.branch [
      | in-Byte w ↦
          let z = subst (λ d. Listed c.args.flags d x.0) w.in-Byte.is x.1 in
          rw (c.in_ok-add.ensures.before, w.character-is, w.from-character.ensures, ← z) x.2
      | in-Wide w ↦
          let z = subst (λ d. Listed c.args.flags d x.0) w.in-Wide.is x.1 in
          rw (c.in_ok-add.ensures.before, w.character-is, ← z.1) x.2
    ]
