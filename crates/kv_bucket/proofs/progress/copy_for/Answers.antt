use Rattle.std.proofs.Common.{◌≡◌, Option, Some, true, false, ap, sym, subst}
use Rattle.std.specs.Option.{option_map}
use Rattle.kv_model.specs.Acts.{floor_of}
use Rattle.kv_store.specs.Standing.{StandsFor}
use Rattle.kv_watch.specs.Watching.{Watching}
use Rattle.kv_bucket.specs.inside.Fed.{TellsLagOf}
use Rattle.kv_publish.specs.Publications.{Published}
use Rattle.kv_bucket.proofs.Feeds.{at_floor, none_behind, told_behind, whatever_is_ok}
use Rattle.kv_bucket.proofs.progress.copy_for.Goals as goal
use Rattle.kv_bucket.proofs.progress.copy_for.Goals.{in-Some+else-lags_behind, in_default}

pub returns-clause-ahead : goal.returns-clause-ahead
returns-clause-ahead c =
    let acts = c.args.publication.now.raw_prefix.acts in
    let follower : Option (Published × Watching) = option_map (λ f. (f.0.now, f.1.now)) c.args.follower in
    let near : TellsLagOf follower (floor_of acts) false = elim c.match-follower.branch [
      | in-Some+else-lags_behind w ↦
          let some : follower ≡ Some (w.in-Some.current.now, w.in-Some.watch.now) = ap (option_map (λ f. (f.0.now, f.1.now))) w.in-Some.is in
          let same : w.floor-floor.result ≡ floor_of acts = w.floor-floor.ensures.acts acts (subst (StandsFor acts) (sym w.version.ensures.value) w.version.ensures.stands) in
          at_floor follower w.in-Some.current.now w.in-Some.watch.now acts w.floor-floor.result w.lags_behind.result false some same w.if-lags_behind.false w.lags_behind.ensures
      | in_default w ↦ none_behind follower (floor_of acts) (ap (option_map (λ f. (f.0.now, f.1.now))) w.in_default.is)
    ] in
    whatever_is_ok c.try_clone.result (TellsLagOf follower (floor_of acts) false) near

pub returns-then-lags_behind : goal.returns-then-lags_behind
returns-then-lags_behind c =
    let acts = c.args.publication.now.raw_prefix.acts in
    let follower : Option (Published × Watching) = option_map (λ f. (f.0.now, f.1.now)) c.args.follower in
    let some : follower ≡ Some (c.in-Some.current.now, c.in-Some.watch.now) = ap (option_map (λ f. (f.0.now, f.1.now))) c.in-Some.is in
    let same : c.floor-floor.result ≡ floor_of acts = c.floor-floor.ensures.acts acts (subst (StandsFor acts) (sym c.version.ensures.value) c.version.ensures.stands) in
    let far = at_floor follower c.in-Some.current.now c.in-Some.watch.now acts c.floor-floor.result c.lags_behind.result true some same c.if-lags_behind.true c.lags_behind.ensures in
    record { ok = tt; stands = tt; ahead = tt; err = told_behind follower acts c.floor-floor.result same far }
