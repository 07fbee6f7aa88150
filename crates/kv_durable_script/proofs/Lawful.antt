-- The entries of a journal can be dumped.
use Rattle.std.proofs.Common.{◌≡◌, ◌≤◌, Bool, true, false, cond, List, [], ◌∷◌, ◌++◌, length, Result, Ok, Err, refl, sym, ap, subst, arith, append_assoc, append-nil, length-append}
use Rattle.std.specs.Prelude.{nat_le, nat_lt, ◌||◌, ◌&&◌}
use Rattle.std.specs.List.{AllByRecursion}
use Rattle.std.proofs.lemmas.Bool.{and_parts, leb-true, leb-false}
use Rattle.kv_keys.specs.declared.error.KvError.{KvError}
use Rattle.kv_keys.specs.declared.error.KvError.TheVariants.{ValueTooLarge, Sealed, JournalFull}
use Rattle.kv_model.specs.Acceptance.{IsAccepted, LawfulFrom, is_full, next_write, objection, unless}
use Rattle.kv_model.specs.Acts.{Act, Wrote, Seal, Compact, Write, is_sealed, writes_of}
use Rattle.kv_model.specs.Compaction.{stored_writes}
use Rattle.kv_model.specs.Configuration.{Configuration, IsLegal, has_legal_numbers}
use Rattle.kv_model.specs.Requests.{Asked, value_of}
use Rattle.kv_model.proofs.Numbered.{writes_of-compact, writes_of-seal, writes_of-wrote}
use Rattle.kv_model.proofs.Storing.{good_floor}
use Rattle.kv_journal.specs.Entries.{AreLawful, Entry, IsLawfulContent, acts_in}
use Rattle.kv_journal.specs.Records.{Content, did, did_all, closed}
use Rattle.kv_journal.proofs.Accepting.{accepted_is_recordable}
use Rattle.kv_journal.proofs.Together.{short_record}
use Rattle.kv_durable_script.specs.inside.Dumpable.{CanDump, CanDumpAct, CanDumpEntry, FitsAct}

pub passes : (b : Bool) (e : KvError) (rest : Result Write KvError) (w : Write) → cond b (Err e) rest ≡ Ok w → (b ≡ false) × (rest ≡ Ok w)
passes true e rest w h = absurd (let no : ⊥ = cc in no)
passes false e rest w h = (refl, h)

second_false : (a b : Bool) → a || b ≡ false → b ≡ false
second_false true b h = absurd (let no : ⊥ = cc in no)
second_false false b h = h

-- behind these acts no more revisions are used up than there are
abbrev pub IsWithin : Configuration → List Act → Type 0
IsWithin config acts = length (writes_of acts) ≤ config.revision_limit

pub accepted_within : (config : Configuration) (before : List Act) (act : Act) → IsAccepted config before act → IsWithin config before → IsWithin config (before ++ act ∷ [])
accepted_within config before (Wrote w) h within =
    let asked : Asked = h.0 in
    let w₃ = unless (objection asked before) (next_write asked before) in
    let w₂ = cond (is_full config before) (Err JournalFull) w₃ in
    let w₁ = cond (is_sealed before) (Err Sealed) w₂ in
    let one = passes (nat_lt config.value_limit (length (value_of asked))) ValueTooLarge w₁ w h.1.1 in
    let two = passes (is_sealed before) Sealed w₂ w one.1 in
    let room = second_false (nat_le config.write_limit (length (stored_writes config.history before))) (nat_le config.revision_limit (length (writes_of before))) (passes (is_full config before) JournalFull w₃ w two.1).0 in
    omega (arith, leb-false config.revision_limit (length (writes_of before)) room, ap length (writes_of-wrote before w), length-append (writes_of before) (w ∷ []))
accepted_within config before Seal h within = omega (arith, within, ap length (writes_of-seal before))
accepted_within config before (Compact floor) h within = omega (arith, within, ap length (writes_of-compact before floor))

pub most_revisions : (config : Configuration) → has_legal_numbers config ≡ true → config.revision_limit ≤ 4294967295
most_revisions config h =
    let a = nat_le 1 config.history && nat_le config.history 64 in
    let b = nat_le config.value_limit 1048576 in
    let c = nat_le 1 config.write_limit && nat_le config.write_limit 1000000 in
    leb-true config.revision_limit 4294967295 (and_parts (nat_le 1 config.revision_limit) (nat_le config.revision_limit 4294967295) (and_parts ((a && b) && c) _ h).1).1

pub most_value : (config : Configuration) → has_legal_numbers config ≡ true → config.value_limit ≤ 1048576
most_value config h =
    let a = nat_le 1 config.history && nat_le config.history 64 in
    let b = nat_le config.value_limit 1048576 in
    let c = nat_le 1 config.write_limit && nat_le config.write_limit 1000000 in
    leb-true config.value_limit 1048576 (and_parts a b (and_parts (a && b) c (and_parts ((a && b) && c) _ h).0).0).1

pub fits_act : (config : Configuration) (before : List Act) (act : Act) → IsLegal config → IsAccepted config before act → IsWithin config before → FitsAct act
fits_act config before (Wrote w) legal h within = tt
fits_act config before Seal legal h within = tt
fits_act config before (Compact floor) legal h within = omega (arith, (good_floor floor before h).0, within, most_revisions config legal.1)

can_act : (config : Configuration) (before : List Act) (act : Act) → IsLegal config → IsAccepted config before act → IsWithin config before → CanDumpAct act
can_act config before act legal h within = record {
  recordable = accepted_is_recordable config before act h;
  fits = fits_act config before act legal h within;
  short = short_record config before act legal h;
}

pub can_acts : (config : Configuration) (before acts : List Act) → IsLegal config → LawfulFrom config before acts → IsWithin config before → AllByRecursion CanDumpAct acts × IsWithin config (before ++ acts)
can_acts config before [] legal h within = (tt, subst (IsWithin config) (sym (append-nil before)) within)
can_acts config before (act ∷ acts) legal h within =
    let more = can_acts config (before ++ act ∷ []) acts legal h.1 (accepted_within config before act h.0 within) in
    ((can_act config before act legal h.0 within, more.0), subst (IsWithin config) (append_assoc before (act ∷ []) acts) more.1)

pub can_content : (config : Configuration) (before : List Act) (content : Content) → IsLegal config → IsLawfulContent config before content → IsWithin config before → CanDump content × IsWithin config (before ++ acts_in content)
can_content config before (did act) legal h within = (can_act config before act legal h within, accepted_within config before act h within)
can_content config before (did_all acts) legal h within = can_acts config before acts legal h within
can_content config before (closed last) legal h within = (tt, subst (IsWithin config) (sym (append-nil before)) within)

can_entries : (config : Configuration) (before : List Act) (entries : List Entry) → IsLegal config → AreLawful config before entries → IsWithin config before → AllByRecursion CanDumpEntry entries
can_entries config before [] legal h within = tt
can_entries config before (entry ∷ entries) legal h within =
    let here = can_content config before entry.content legal h.0.1 within in
    ((h.0.0, here.0), can_entries config (before ++ acts_in entry.content) entries legal h.1 here.1)

pub can_dump : (config : Configuration) (entries : List Entry) → IsLegal config → AreLawful config [] entries → AllByRecursion CanDumpEntry entries
can_dump config entries legal h = can_entries config [] entries legal h (omega arith)
