-- A search by a table, one unit more at a time, and what it finds.
-- Main statements: next-offset, come-start, come-listing, come-silent, come-above, come-stays, come-on, finds-on,
-- finds-all, finds-over, found-text, found-search, found-decides.
-- Used by: the searches of `Dfa`.
-- Idea: what is found, the match of the last row that lists patterns, is the same wherever the search has come to.
use Rattle.determinize_dense.proofs.Common.{All, All-drop, All-nil, Anchored, ap, arith, Asked, Bool, chain, Decides}
use Rattle.determinize_dense.proofs.Common.{DfaValue, drop, ended_at, false, FindsFrom, found_from, HalfMatch, HasCome}
use Rattle.determinize_dense.proofs.Common.{inl, inr, is_anchored, is_nonempty, is_some, IsDfa, IsFound, IsMatch}
use Rattle.determinize_dense.proofs.Common.{IsOffset, IsOrdered, IsRead, IsRowAt, IsUnit, last_listed, last_match}
use Rattle.determinize_dense.proofs.Common.{length, List, lists_along, ListsNoneAbove, match-decides, match_so_far}
use Rattle.determinize_dense.proofs.Common.{None, offset_of, Option, option_or, option_or-assoc, option_or-None}
use Rattle.determinize_dense.proofs.Common.{patterns_at, Reached, refl, row_at, row_over, start_for, start_in}
use Rattle.determinize_dense.proofs.Common.{start_row, StaysOver, suc, sym, Table, Text, text_of, true, true≢false}
use Rattle.determinize_dense.proofs.Common.{units, zero, [], ℕ, ◌+◌, ◌-◌, ◌<◌, ◌∙◌, ◌≡◌, ◌≤◌, ◌⊎◌}
use Rattle.determinize_core.proofs.walk.ValueWalks.{last_is}
use Rattle.determinize_dense.proofs.Along.{along_text, last_listed-dead, last_listed-done, last_listed-more, start_is}
use Rattle.determinize_dense.proofs.Offsets.{row-of}
use Rattle.determinize_engine.proofs.SearchMatches.{is-search}
use Rattle.determinize_engine.specs.Searches.{HasMatch, IsSearch}

-- the next row has an offset
pub next-offset : {d : Table} {text : Text} {index row next : ℕ} → IsOffset d row → IsRead d text index row next
    → IsOffset d next
next-offset {d} at r = let k = r.goes at.0 at.1 at.2 in (row_over d at.0 r.unit, k.0, k.1)

row-zero : (d : Table) → row_at d 0 ≡ 0
row-zero d = row-of d {r = 0} (omega arith)

-- a list of patterns has a match
match_of_some : (end : ℕ) (ps : List ℕ) → is_nonempty ps ≡ true → is_some (ended_at end ps) ≡ true
match_of_some end ps some = grind arith

none_listed : (ps : List ℕ) → is_nonempty ps ≡ false → ps ≡ []
none_listed ps none = grind arith

or_some : (a b : Option HalfMatch) → is_some b ≡ true → option_or b a ≡ b
or_some a b some = grind arith

is_some-or : (a b : Option HalfMatch) → is_some b ≡ true → is_some b ≡ is_some (option_or a b)
is_some-or a b some = grind arith

-- a search where it begins
pub come-start : {d : DfaValue} {text : Text} {r : Reached} → IsOffset d.table r.row → IsOffset d.table r.matched
    → HasCome d text r r
come-start at listing = record { at = at; listing = listing; same = refl; matched = λ has. has }

-- how far a search has come in two parts
pub come-on : {d : DfaValue} {text : Text} {from now to : Reached} → HasCome d text from now → HasCome d text now to
    → HasCome d text from to
come-on a b = record {
  at = b.at;
  listing = b.listing;
  same = b.same ∙ a.same;
  matched = λ has. b.matched (a.matched has);
}

-- over one unit more
module _ {d : DfaValue} {text : Text} {from now : Reached} {next : ℕ} (come : HasCome d text from now)
    (r : IsRead d.table text now.read now.row next) where
  abbrev number : ℕ
  number = row_over d.table come.at.0 r.unit

  here : IsRowAt d.table next number
  here = r.goes come.at.0 come.at.1 come.at.2

  -- what the next row adds to what is found
  unrolled : found_from d.table text now
      ≡ option_or (last_listed (now.read + 1)
      (lists_along d.table (row_at d.table next) (drop (now.read + 1) (units text))))
      (option_or (ended_at now.read (patterns_at d.table (row_at d.table next))) (match_so_far d.table now))
  unrolled = rw (
    row-of d.table come.at.2,
    last_listed-more d.table come.at.0 now.read (units text) r.unit r.at,
    row-of d.table here.1,
    option_or-assoc,
  ) refl

  -- to a row that lists none
  come-kept : patterns_at d.table number ≡ [] → HasCome d text from record now { row = next; read = now.read + 1 }
  come-kept none =
      let none_there : patterns_at d.table (row_at d.table next) ≡ [] = rw (row-of d.table here.1) none in record {
        at = next-offset come.at r;
        listing = come.listing;
        same = rw (unrolled, none_there) at come.same;
        matched = come.matched;
      }

  -- to a row that lists some
  come-lists : is_nonempty (patterns_at d.table number) ≡ true → HasCome d text from
      record { row = next; read = now.read + 1; matched = next; offset = now.read }
  come-lists some =
      let lists = match_of_some now.read (patterns_at d.table (row_at d.table next))
      (rw (row-of d.table here.1) some) in
      record {
        at = next-offset come.at r;
        listing = next-offset come.at r;
        same = rw (unrolled, or_some (match_so_far d.table now) _ lists) at come.same;
        matched = λ has not. lists;
      }

  -- to a row of which a test says whether it lists some
  module _ {lists : Bool} (test : (s : ℕ) → IsRowAt d.table next s → lists ≡ is_nonempty (patterns_at d.table s)) where
    pub come-listing : lists ≡ true → HasCome d text from
        record { row = next; read = now.read + 1; matched = next; offset = now.read }
    come-listing e = come-lists (sym (test number here) ∙ e)

    pub come-silent : lists ≡ false → HasCome d text from record now { row = next; read = now.read + 1 }
    come-silent e = come-kept (none_listed (patterns_at d.table number) (sym (test number here) ∙ e))

  -- to one above all that list some
  pub come-above : {stop : ℕ} → ListsNoneAbove d.table stop → stop < next
      → HasCome d text from record now { row = next; read = now.read + 1 }
  come-above above past = come-kept (above number here.0 (rw here.1 at past))

-- over units that do not leave a row above all that list some
module _ {d : DfaValue} {text : Text} {from : Reached} (r : Reached) {to stop : ℕ}
    (above : ListsNoneAbove d.table stop) (past : stop < r.row) where
  stays : (more read : ℕ) → read + more ≡ to → StaysOver d.table r.row text read to
      → HasCome d text from record r { read = read } → HasCome d text from record r { read = to }
  stays zero read e over come = let all : read ≡ to = omega arith in rw all at come
  stays (suc more) read e over come = stays more (read + 1) (omega arith) (λ i h l. over i (omega arith) l)
      (come-above come (over read (omega arith) (omega arith)) above past)

  pub come-stays : HasCome d text from r → r.read ≤ to → StaysOver d.table r.row text r.read to
      → HasCome d text from record r { read = to }
  come-stays come more over = stays (to - r.read) r.read (omega arith) over come

-- the order of rows, of what a DFA is seen as
pub ordered : {v d : DfaValue} {last_match last_special : ℕ} → v ≡ d → IsOrdered v.table last_match last_special
    → IsOrdered d.table last_match last_special
ordered e o = rw e at o

-- what is found from where a search has come to is found from before
pub finds-on : {d : DfaValue} {earliest : Bool} {text : Text} {from now : Reached} {found : Option HalfMatch}
    → HasCome d text from now → FindsFrom d earliest text now found → FindsFrom d earliest text from found
finds-on come f = record {
  last = λ late. f.last late ∙ come.same;
  some = λ has. f.some (come.matched has) ∙ ap is_some come.same;
}

module _ {d : DfaValue} {text : Text} {from r : Reached} {found : Option HalfMatch}
    (come : HasCome d text from r) (f : IsMatch d.table r.matched r.offset found) where
  so_far : found ≡ match_so_far d.table r
  so_far = rw (row-of d.table come.listing.2) (f come.listing.0 come.listing.1 come.listing.2)

  -- no row that follows lists patterns
  finds-last : {earliest : Bool}
      → last_listed r.read (lists_along d.table (row_at d.table r.row) (drop r.read (units text))) ≡ None
      → FindsFrom d earliest text from found
  finds-last none =
      let e : found ≡ found_from d.table text r = rw none so_far in
      finds-on come record { last = λ late. e; some = λ has. ap is_some e }

  -- a search that has read all units
  pub finds-all : {earliest : Bool} → length (units text) ≤ r.read → FindsFrom d earliest text from found
  finds-all all = finds-last (last_listed-done d.table (row_at d.table r.row) r.read (units text) all)

  -- or is in row 0, or has a match where any will do
  pub finds-over : {earliest : Bool} → IsDfa d → All IsUnit (units text)
      → (r.row ≡ 0) ⊎ ((earliest ≡ true) × (r.matched ≡ 0 → ⊥)) → FindsFrom d earliest text from found
  finds-over is all (inl dead) = finds-last (rw (dead, row-zero d.table) (last_listed-dead d.table
      (drop r.read (units text)) 0 r.read is.dead (All-drop IsUnit r.read _ all)))
  finds-over is all (inr early) = finds-on come record {
    last = λ late. absurd (true≢false (sym early.0 ∙ late));
    some = λ has. rw so_far (is_some-or _ (match_so_far d.table r) (has early.1));
  }

-- what is found from the row of a start
pub found-text : {d : DfaValue} {earliest anchored : Bool} {text : Text} {row : ℕ} {found : Option HalfMatch} → IsDfa d
    → row ≡ offset_of d.table (start_row d.nfa d.table anchored text.behind)
    → start_row d.nfa d.table anchored text.behind < length d.table.patterns → IsUnit text.behind
    → All IsUnit (units text)
    → FindsFrom d earliest text record { row = row; read = 0; matched = 0; offset = 0 } found
    → IsFound d earliest anchored text found
found-text {d} {earliest} {anchored} {text} {row} is at below behind all f =
    let along = along_text d.nfa d.kind d.table is.accepted is.tells anchored text behind all
    (start_in d.nfa anchored) refl in
    let none = is.dead [] (All-nil IsUnit) in
    let same : found_from d.table text record { row = row; read = 0; matched = 0; offset = 0 }
    ≡ last_match (chain d.nfa d.kind (start_in d.nfa anchored) text)
    = rw (row-of d.table at, row-zero d.table, none, option_or-None, last_is, ← along.walk) refl in
    record {
      accepted = is.accepted;
      last = λ late. f.last late ∙ same;
      some = f.some (λ not. absurd (not refl)) ∙ ap is_some same;
    }

module _ {d : DfaValue} where
  -- what a search finds, in words of runs
  pub found-search : (a : Anchored) (text : Text) {found : Option HalfMatch}
      → IsFound d false (is_anchored a) text found
      → IsSearch d.nfa d.kind (start_for d.nfa a) text found
  found-search a text {found} f = rw (← start_is d.nfa a)
      (is-search d.nfa d.kind (start_in d.nfa (is_anchored a)) text found f.accepted (f.last refl))

  -- some run accepts exactly where a match is found
  pub found-decides : (asked : Asked) {earliest : Bool} {found : Option HalfMatch}
      → IsFound d earliest (is_anchored asked.anchored) (text_of d.nfa.reverse asked) found
      → Decides (is_some found) (HasMatch d.nfa asked)
  found-decides asked f =
      match-decides d.nfa d.kind asked f.accepted (rw (start_is d.nfa asked.anchored) at f.some)
