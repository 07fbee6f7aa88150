-- Acts that lead to a checkpoint.
use Rattle.std.proofs.Common.{◌≡◌, ℕ, List, ◌++◌, ◌≤◌, length, subst, sym, arith}
use Rattle.std.specs.Prelude.{◌&&◌, nat_le}
use Rattle.std.proofs.lemmas.Bool.{and_parts, leb-true}
use Rattle.kv_frames.specs.Frames.{ArePayloads, frames, offset_after}
use Rattle.kv_model.specs.Acceptance.{IsLawful}
use Rattle.kv_model.specs.Acts.{Act, Write}
use Rattle.kv_model.specs.Configuration.{Configuration, IsLegal}
use Rattle.kv_store.specs.Stored.{Stored}
use Rattle.kv_journal.specs.Checkpoints.{Checkpoint, checkpoint_of, checkpoint_payloads}
use Rattle.kv_journal.specs.Restored.{IsOnly, IsRestored}
use Rattle.kv_journal.specs.inside.Reachable.{IsReachable}
use Rattle.kv_journal.proofs.FreshKey.{fresh_key}
use Rattle.kv_journal.proofs.Leading.{acts_leading}
use Rattle.kv_journal.proofs.Necessary.{reachable_by}
use Rattle.kv_journal.proofs.OnlyCheckpoint.{made, same_parts}

few_stored : (config : Configuration) (ws : List Write) → IsLegal config → length ws ≤ config.write_limit → length ws ≤ 1000000
few_stored config ws l few =
    let history = nat_le 1 config.history && nat_le config.history 64 in
    let value = nat_le config.value_limit 1048576 in
    let writes = nat_le 1 config.write_limit && nat_le config.write_limit 1000000 in
    let revision = nat_le 1 config.revision_limit && nat_le config.revision_limit 4294967295 in
    let three = and_parts (history && value && writes) revision l.1 in
    let two = and_parts (history && value) writes three.0 in
    let both = and_parts (nat_le 1 config.write_limit) (nat_le config.write_limit 1000000) two.1 in
    omega (arith, few, leb-true config.write_limit 1000000 both.1)

-- where its parts are those of acts, there are acts that it is the checkpoint of
pub acts_of_parts : (config : Configuration) (c : Checkpoint) → IsLegal config → IsReachable config c.writes c.last c.values c.floor → (acts : List Act) × IsLawful config acts × (checkpoint_of config acts ≡ c)
unfolding made
acts_of_parts config c legal r =
    let spare = fresh_key c.writes (few_stored config c.writes legal r.few) in
    let found = acts_leading config spare.0 c.writes c.last c.values c.floor c.sealed legal spare.1 spare.2 r in (
      found.0,
      found.1,
      same_parts (checkpoint_of config found.0) c.writes c.last c.values c.floor c.sealed found.2 found.3 found.4 found.5 found.6,
    )

-- where they are not, the bytes begin with the checkpoint of no acts
pub of_no_acts : (config : Configuration) (seed at : ℕ) (bytes : List ℕ) (c : Checkpoint) → IsLegal config → IsOnly config seed at bytes c → (IsReachable config c.writes c.last c.values c.floor → ⊥)
    → (acts : List Act) (rest : List ℕ) → IsLawful config acts → ArePayloads (checkpoint_payloads (checkpoint_of config acts)) → bytes ≡ frames seed at (checkpoint_payloads (checkpoint_of config acts)) ++ rest → ⊥
of_no_acts config seed at bytes c legal only not acts rest lawful each whole =
    let same = only acts rest lawful each whole in
    not (subst (λ (d : Checkpoint). IsReachable config d.writes d.last d.values d.floor) same (reachable_by config acts legal lawful))

-- a version that has what such a checkpoint tells has what acts have stored whose checkpoint it is
pub led_to : (config : Configuration) (seed at : ℕ) (bytes : List ℕ) (c : Checkpoint) (rest : List ℕ) → IsLegal config → bytes ≡ frames seed at (checkpoint_payloads c) ++ rest → ArePayloads (checkpoint_payloads c) → IsOnly config seed at bytes c
    → IsReachable config c.writes c.last c.values c.floor → (version : Stored) → IsRestored config c version → (offset : ℕ) → offset ≡ offset_after at (checkpoint_payloads c)
    → (acts : List Act) × (left : List ℕ) × IsLawful config acts × ArePayloads (checkpoint_payloads (checkpoint_of config acts)) × (bytes ≡ frames seed at (checkpoint_payloads (checkpoint_of config acts)) ++ left)
    × IsRestored config (checkpoint_of config acts) version × (offset ≡ offset_after at (checkpoint_payloads (checkpoint_of config acts))) × IsOnly config seed at bytes (checkpoint_of config acts)
led_to config seed at bytes c rest legal whole each only r version is offset there =
    let found = acts_of_parts config c legal r in
    let same = sym found.2 in (
      found.0,
      rest,
      found.1,
      subst (λ (d : Checkpoint). ArePayloads (checkpoint_payloads d)) same each,
      subst (λ (d : Checkpoint). bytes ≡ frames seed at (checkpoint_payloads d) ++ rest) same whole,
      subst (λ (d : Checkpoint). IsRestored config d version) same is,
      subst (λ (d : Checkpoint). offset ≡ offset_after at (checkpoint_payloads d)) same there,
      subst (λ (d : Checkpoint). IsOnly config seed at bytes d) same only,
    )
