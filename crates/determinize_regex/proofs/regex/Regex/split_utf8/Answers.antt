use Rattle.determinize_regex.proofs.Common.{IfOk-weaker}
use Rattle.determinize_regex.proofs.Splitting.{kept_apart}
use Rattle.determinize_regex.proofs.regex.Regex.split_utf8.Goals as goal

pub split_at-requires : goal.split_at-requires
split_at-requires g c = rw (c.deref.ensures.value, c.retain_whole.ensures)
    (kept_apart _ 0 _ _ c.in_ok-found.found.items c.in_ok-found.ensures.apart)

pub returns-clause-parts : goal.returns-clause-parts
returns-clause-parts g c =
    let all = c.in_ok-found in
    IfOk-weaker c.split_at.result _ _
    (λ cut are. record {
      matches = c.retain_whole.new.found.items;
      these = record { matches = all.found.items; all = all.ensures.all; kept = c.retain_whole.ensures };
      are = are;
    })
    (rw c.deref.ensures.value at c.split_at.ensures)
