-- What a text has that the parser rejects at a limit.
use Rattle.std.specs.Prelude.{◌≡◌, ◌++◌, ℕ, codes, true}
use Rattle.std.specs.List.{count_by}
use Rattle.determinize_syntax.specs.Spells.{Bytes}
use Rattle.determinize_syntax.specs.Words.{◌∈◌, is_name}

-- the number of bytes with which a group or an operator may begin
abbrev pub openings : Bytes → ℕ
openings text = count_by (λ c. c ∈ "(*+?{") text

-- the name between the signs that enclose it where a group opens
abbrev pub bracketed : Bytes → Bytes
bracketed name = codes "<" ++ name ++ codes ">"

-- the text has a name twice between `<` and `>`, whether or not groups open there
abbrev pub HasNameTwice : Bytes → Type 0
HasNameTwice text = (name front between back : Bytes) × (is_name name ≡ true)
    × (text ≡ front ++ bracketed name ++ between ++ bracketed name ++ back)
