use Rattle.determinize_syntax.proofs.Common.{◌++◌, ◌∙◌, ◌∷◌, ◌≡◌, IsNamed, Passes, ap, bracketed, closed, is_name, refl}
use Rattle.determinize_syntax.proofs.Common.{rest, rules, slice_get, sym, tails, true}
use Rattle.determinize_syntax.specs.Private.Names.{is_local}
use Rattle.determinize_syntax.specs.declared.error.ErrorKind.TheVariants.{GroupNameDuplicate, NestLimitExceeded}
use Rattle.determinize_syntax.proofs.Limits.{local_right, name_added, name_twice, passes_byte, passes_none, passes_part, read_name}
use Rattle.determinize_syntax.proofs.Limits.{same_name, unnot}
use Rattle.determinize_syntax.proofs.group.name.Goals as goal

pub returns-clause-read : goal.returns-clause-read
returns-clause-read c = closed (λ t. is_name t ≡ true) IsNamed c.in_ok-letters_of_name.ensures.read
    (c.take.ensures.read c.if-not-take.false) (λ t is. (t, is, refl))

pub returns-in_err-letters_of_name-clause-whole : goal.returns-in_err-letters_of_name-clause-whole
returns-in_err-letters_of_name-clause-whole c n u e is =
    search (rules, c.in_err-letters_of_name.ensures.whole n u e is)

pub returns-then-not-take-clause-whole : goal.returns-then-not-take-clause-whole
returns-then-not-take-clause-whole c n u e is =
    absurd (c.take.ensures.other c.if-not-take.true
    (ap (λ l. slice_get l 0) (c.in_ok-letters_of_name.ensures.whole n u e is)))

pub returns-clause-whole : goal.returns-clause-whole
returns-clause-whole c n u e is =
    tails (sym (c.take.ensures.read c.if-not-take.false) ∙ c.in_ok-letters_of_name.ensures.whole n u e is)

pub returns-clause-limits : goal.returns-clause-limits
returns-clause-limits c levels =
    let part = c.in_ok-letters_of_name.ensures.read in
    let key = c.since-name.result in
    let same : key.now ≡ part.0 = c.since-name.ensures part.0 part.1 in
    let is : is_name key.now ≡ true = rw same part.2 in
    let passed : Passes c.args.context.now (0x3C ∷ rest c.args.cursor.now) 0 c.args.context.now (rest c.take.new.self) =
    passes_byte 0x3E (passes_part (passes_byte 0x3C (passes_none _ _) refl) part)
    (c.take.ensures.read c.if-not-take.false) in
    record {
      deep = passed.deep;
      named = λ text h. (
        h.0 ++ bracketed key.now,
        read_name h.0 h.1 part.1 same (c.take.ensures.read c.if-not-take.false),
        rw c.in_ok-insert.ensures.keys (name_added (λ k. k.now) _ c.args.context.now.names.keys key h.0 is h.2),
      );
    }

pub returns-then-not-branch-clause-limits : goal.returns-then-not-branch-clause-limits
returns-then-not-branch-clause-limits c levels =
    let part = c.in_ok-letters_of_name.ensures.read in
    let key = c.since-name.result in
    let same : key.now ≡ part.0 = c.since-name.ensures part.0 part.1 in
    record {
      nested = λ is few. (let never : GroupNameDuplicate ≡ NestLimitExceeded = sym c.new.ensures ∙ is
          in absurd (cc));
      twice = λ is text h. name_twice (λ k. k.now) _ c.args.context.now.names.keys key text h.0 (rest c.take.new.self)
          (unnot _ (sym c.if-not-branch.true ∙ c.in_ok-insert.ensures.added)) (λ k e. same_name key.now k.now e)
          (read_name h.0 h.1 part.1 same (c.take.ensures.read c.if-not-take.false)) h.2;
    }

pub returns-in-Some-eq62-clause-limits : goal.returns-in-Some-eq62-clause-limits
returns-in-Some-eq62-clause-limits c levels =
    local_right levels _ _ c.error_before.result (ap is_local c.error_before.ensures)

pub returns-in_err-letters_of_name-clause-limits : goal.returns-in_err-letters_of_name-clause-limits
returns-in_err-letters_of_name-clause-limits c levels =
    let limit = local_right levels c.args.context.now (0x3C ∷ rest c.args.cursor.now)
    c.in_err-letters_of_name.field-0.0 c.in_err-letters_of_name.ensures.local in
    search (rules, limit)

pub returns-then-not-take-clause-limits : goal.returns-then-not-take-clause-limits
returns-then-not-take-clause-limits c levels = local_right levels _ _ c.unnamed.result c.unnamed.ensures
