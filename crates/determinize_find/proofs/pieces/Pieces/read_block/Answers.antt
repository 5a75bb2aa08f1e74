use Rattle.determinize_find.proofs.Common.{append-nil, HasMoved, IsFed, IsSearching, moved, None, of_err, refl, rules, [], ◌++◌, ◌∙◌, ◌∷◌, ◌≡◌}
use Rattle.determinize_find.proofs.streams.Steps.{front_fed, joined_none, moved_begun}
use Rattle.determinize_find.proofs.pieces.Pieces.read_block.Given.{Over}
use Rattle.determinize_find.proofs.pieces.Pieces.read_block.Goals.{After-next_certain}
use Rattle.determinize_find.proofs.pieces.Pieces.read_block.Goals as goal

pub returns-in_err-keep-clause-read : goal.returns-in_err-keep-clause-read
returns-in_err-keep-clause-read g c searching =
    let move : HasMoved c.args.regex.now.nfa c.args.self.now c.keep.new.self
    = rw c.in_err-keep.ensures.failed (moved_begun refl searching) in record {
      fed = search rules;
      failed = of_err _ (front_fed c.args.block.now refl (move.fed c.args.found.now.items));
      searching = move.searching;
    }

pub loop-next-init : goal.loop-next-init
loop-next-init g c = record {
  same = c.in_ok-keep.ensures.same;
  read = λ searching. (
    c.in_ok-keep.ensures.fed c.args.regex.now.nfa c.args.found.now.items,
    c.in_ok-keep.ensures.searching searching,
  );
}

-- nothing more was read or found
no_more : (g : Over) (c : After-next_certain g) → IsSearching c.args.regex.now.nfa c.args.self.now
    → IsFed c.args.regex.now.nfa c.args.self.now c.next_certain.new.self c.args.block.now c.args.found.now.items
    c.loop-next.found.items × IsSearching c.args.regex.now.nfa c.next_certain.new.self
no_more g c searching =
    let (fed, now) = c.loop-next.invariant.read searching in
    let move = ((rw c.loop-next.invariant.same at c.next_certain.ensures.step) now).moved in
    (joined_none fed (move.fed c.loop-next.found.items), move.searching)

pub returns-in_err-next-clause-read : goal.returns-in_err-next-clause-read
returns-in_err-next-clause-read g c searching =
    let (fed, now) = no_more g (goal.at.returns-in_err-next-clause-read g c).After-next_certain searching in
    record { fed = search rules; failed = of_err _ (front_fed [] (append-nil _) fed); searching = now }

pub returns-in_err-push-clause-read : goal.returns-in_err-push-clause-read
returns-in_err-push-clause-read g c searching =
    let (fed, now) = no_more g (goal.at.returns-in_err-push-clause-read g c).After-next_certain searching in
    let items : c.push.new.self.items ≡ c.loop-next.found.items = search rules in
    record { fed = search rules; failed = of_err _ (front_fed [] (append-nil _) (rw items fed)); searching = now }

pub loop-next-preserved : goal.loop-next-preserved
loop-next-preserved g c =
    let place = rw c.in-Some.is at c.in_ok-next.ensures.place in
    let items : c.push.new.self.items
    ≡ c.loop-next.found.items ++ moved c.next_certain.new.self.dropped c.in-Some.next ∷ [] = search rules in
    record {
      same = c.in_ok-next.ensures.same ∙ c.loop-next.invariant.same;
      read = λ searching.
          let (fed, now) = c.loop-next.invariant.read searching in
          let step = (rw c.loop-next.invariant.same at c.in_ok-next.ensures.step) now in
          let certain = rw c.in-Some.is at step.certain in
          let match = c.pass.ensures.fed c.args.regex.now.nfa certain c.loop-next.found.items in (
            rw items (joined_none (joined_none fed (step.moved.fed c.loop-next.found.items)) match),
            rw (c.pass.ensures.value, place.none) tt,
          );
    }

pub returns-clause-read : goal.returns-clause-read
returns-clause-read g c searching =
    let (fed, now) = no_more g (goal.at.returns-clause-read g c).After-next_certain searching in
    record { fed = fed; failed = tt; searching = now }

pub returns-clause-few : goal.returns-clause-few
returns-clause-few g c searching =
    let none : c.in_ok-next.field-0 ≡ None = search rules in
    let step = rw (c.loop-next.invariant.same, none) at c.in_ok-next.ensures.step in
    (step (c.loop-next.invariant.read searching).1).few
