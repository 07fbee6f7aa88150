-- What is found in the bytes of a file, and whether they show damage.
use Rattle.std.proofs.Common.{◌≡◌, ℕ, Bool, List, length, drop, sym, ◌∙◌, subst}
use Rattle.kv_frames.specs.Frames.{Splits, offset_after}
use Rattle.kv_model.specs.Acts.{Act}
use Rattle.kv_model.specs.Configuration.{Configuration, IsLegal}
use Rattle.kv_store.specs.Standing.{StandsFor}
use Rattle.kv_journal.specs.Header.{BeginsWith, beginning, configuration_payload}
use Rattle.kv_journal.specs.Damage.{ShowsDamage}
use Rattle.kv_journal.specs.Entries.{AreLawful, Entry, payloads_of}
use Rattle.kv_durable.specs.Bases.{Base, IsBaseOf, acts_before}
use Rattle.kv_durable.specs.Files.{Reads, file_of}
use Rattle.kv_durable.specs.Openings.{TellsBase}
use Rattle.kv_durable.specs.Starts.{IsStarted}
use Rattle.kv_durable.specs.declared.start.Started.{Started}
use Rattle.kv_durable.proofs.Readings.{damage_shows, end_of_base, end_there, reads, stands, tells}

-- whatever base the bytes go on from, these entries are read of them, up to this offset, and then this rest
pub record IsFound (config : Configuration) (bytes : List ℕ) (seed : ℕ) (payloads : List (List ℕ)) (checkpointed : Bool) (entries : List Entry) (rest tail : List ℕ) (end : ℕ) : Type 0 where
  pub tells : TellsBase config bytes payloads checkpointed
  pub read : (base : Base) → IsBaseOf config payloads base → Reads base bytes seed entries rest
  pub here : (base : Base) → IsBaseOf config payloads base → end ≡ length (file_of seed base entries)
  pub behind : tail ≡ rest

module _ (config : Configuration) (bytes : List ℕ) (seed offset : ℕ) (first front_rest : List ℕ) (begins : BeginsWith bytes seed (configuration_payload config) front_rest) (here : offset ≡ length (beginning seed config)) (behind : first ≡ drop offset bytes) (payloads : List (List ℕ)) (behind_start : List ℕ) (started : Started) (is : IsStarted config seed offset first payloads behind_start started) (left : List ℕ) (is_left : left ≡ drop started.offset bytes) (entries : List Entry) (rest : List ℕ) (end : ℕ) (tail : List ℕ) (splits : Splits seed started.offset left (payloads_of entries) rest) (lawful : (before : List Act) → StandsFor before started.version → AreLawful started.version.config before entries) (ends : end ≡ offset_after started.offset (payloads_of entries)) (is_tail : tail ≡ drop end bytes) where
  pub found : IsFound config bytes seed payloads started.checkpointed entries rest tail end
  found =
      let there = stands config bytes seed offset first front_rest begins here behind payloads behind_start started is left is_left in
      record {
        tells = tells config bytes seed offset first front_rest begins here behind payloads behind_start started is;
        read = λ base of. reads config bytes seed payloads started.offset left there base of entries rest
            (subst (λ (k : Configuration). AreLawful k (acts_before base) entries) (is.same ∙ sym of.same) (lawful (acts_before base) (is.stands base of))) splits;
        here = λ base of. end_of_base config bytes seed payloads started.offset left there base of entries end ends;
        behind = is_tail ∙ (end_there config bytes seed payloads started.offset left there entries rest end splits ends).1;
      }

  -- where another reading of the bytes shows damage, this one does, and the other way
  pub both_show : IsLegal config → (base : Base) (other : ℕ) (others : List Entry) (other_rest : List ℕ) → base.config ≡ config → Reads base bytes other others other_rest
      → (ShowsDamage seed end tail → ShowsDamage other (length (file_of other base others)) other_rest) × (ShowsDamage other (length (file_of other base others)) other_rest → ShowsDamage seed end tail)
  both_show legal base other others other_rest same read =
      let based = found.tells.read base other others other_rest same read in
      let own = found.read base based in
      let at = found.here base based in
      let own_legal = subst IsLegal (sym same) legal in (
        λ shows. damage_shows base bytes seed other entries others rest other_rest own_legal own read
            (subst (λ (w : List ℕ). ShowsDamage seed (length (file_of seed base entries)) w) found.behind (subst (λ (n : ℕ). ShowsDamage seed n tail) at shows)),
        λ shows. subst (λ (n : ℕ). ShowsDamage seed n tail) (sym at)
            (subst (λ (w : List ℕ). ShowsDamage seed (length (file_of seed base entries)) w) (sym found.behind) (damage_shows base bytes other seed others entries other_rest rest own_legal read own shows)),
      )
