-- What a call of the lock tells of the state that the keeper was at.
use Rattle.std.proofs.Common.{◌≡◌, ℕ, List, Result, Ok, Err, refl, subst}
use Rattle.std.specs.Prelude.{OnOk}
use Rattle.kv_keys.specs.Outcome.{Refuses}
use Rattle.kv_keys.specs.declared.error.KvError.{KvError}
use Rattle.kv_model.specs.Acceptance.{accept, IsLawful}
use Rattle.kv_model.specs.Acts.{Act}
use Rattle.kv_model.specs.Configuration.{Configuration}
use Rattle.kv_model.specs.Requests.{Asked}
use Rattle.kv_bucket.specs.Keeping.{KeeperState, IsAt, state_of, IsSomewhere, PublishesWrite, WritesSomewhere, RefusedSomewhere, IsLawfulState, IsKeptStep, CompactsSomewhere, UncompactedSomewhere}
use Rattle.kv_model.specs.Answers.{Compacted}
use Rattle.kv_model.specs.declared.call.Call.TheVariants as calls
use Rattle.kv_model.specs.State.{State, answer_compact, may_compact}
use Rattle.kv_bucket.proofs.Keeping.{same_config}

pub lawful_there : (config : Configuration) (kept : KeeperState) → IsSomewhere config kept → IsLawful config kept.published
lawful_there config kept some = subst (λ (c : Configuration). IsLawful c kept.published) (same_config config kept some) some.1.represents.version.lawful

pub writes_somewhere : (config : Configuration) (old : KeeperState) (request : Asked) (revision : ℕ) (later : List Act) → IsSomewhere config old → PublishesWrite config request revision old.published later → WritesSomewhere config request revision later
writes_somewhere config old request revision later some wrote = (old.published, (lawful_there config old some, wrote))

pub refused_somewhere : (config : Configuration) (old : KeeperState) (request : Asked) (error : KvError) → IsSomewhere config old → ((state : State) → IsAt state old → Refuses error (accept state.config request state.acts)) → RefusedSomewhere config request error
refused_somewhere config old request error some refuses = (old.published, (lawful_there config old some, refuses (state_of config old.published some.0) some.1))

lawful_state : (config : Configuration) (old : KeeperState) (some : IsSomewhere config old) → IsLawfulState config (state_of config old.published some.0)
lawful_state config old some = (refl, lawful_there config old some)

-- what is answered Compacted was allowed
allowed : (floor : ℕ) (r : Result ℕ KvError) → Compacted floor ≡ answer_compact r → r ≡ Ok floor
allowed floor (Ok f) e = cc
allowed floor (Err error) e = cc

pub compacts_somewhere : (config : Configuration) (old : KeeperState) (floor : ℕ) (result : Result (Unit {0}) KvError) (new : KeeperState) → IsSomewhere config old
    → OnOk result (IsKeptStep old (calls.Compact floor) (Compacted floor) new) → OnOk result (CompactsSomewhere config floor)
compacts_somewhere config old floor (Ok done) new some step =
    let state = state_of config old.published some.0 in
    (state, (lawful_state config old some, allowed floor (may_compact floor state) (step state some.1).0))
compacts_somewhere config old floor (Err error) new some step = tt

pub uncompacted_somewhere : (config : Configuration) (old : KeeperState) (floor : ℕ) (error : KvError) → IsSomewhere config old
    → ((state : State) → IsAt state old → Refuses error (may_compact floor state)) → UncompactedSomewhere config floor error
uncompacted_somewhere config old floor error some refuses =
    let state = state_of config old.published some.0 in
    (state, (lawful_state config old some, refuses state some.1))
