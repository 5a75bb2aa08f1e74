use Rattle.determinize_start.proofs.Common.{sym, ◌∙◌, byte_of}
use Rattle.determinize_start.proofs.tables.NoAssertions.{line_set-nothing}
use Rattle.determinize_start.proofs.look_tables.LookTables.line_set.Goals as goal

pub returns-then-is_inside_line : goal.returns-then-is_inside_line
returns-then-is_inside_line c =
    c.empty.ensures ∙ line_set-nothing c.args.self c.args.half_crlf (byte_of c.args.unit)
    (sym c.is_inside_line.ensures ∙ c.if-is_inside_line.true)
