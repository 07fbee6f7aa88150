-- How words that speak of a file end.
use Rattle.std.proofs.Common.{◌≡◌, ◌⊎◌, inl, inr, ◌≤◌, ℕ, suc, zero, true, true≢false, List, [], append-nil, Option, Some, None, Ok, Err, refl, ap, subst, sym, ◌∙◌, arith}
use Rattle.std.specs.Io.KnownBytes.{Appends}
use Rattle.std.proofs.KnownBytes.{Appends-nil, Appends-trans}
use Rattle.std.specs.Prelude.{◌&&◌, codes, is_none}
use Rattle.std.specs.Io.{StartsWith}
use Rattle.clap.specs.Kinds.{Kinds}
use Rattle.clap.specs.Walk.{Text}
use Rattle.kv_keys.specs.Outcome.{Refuses}
use Rattle.kv_keys.specs.declared.error.KvError.{KvError}
use Rattle.kv_keys.specs.declared.error.KvError.TheVariants.{OutOfMemory, BadBucket, BadConfig, BadKey, BadFilter, OptionsClash, ValueTooLarge, Sealed, JournalFull, KeyExists, WrongLastRevision, KeyNotFound, NoSuchWatch, TooManyWatches, NoReader, BadCommand, ReadFault, WriteFault, BadFloor, WatchBehind, Lagged}
use Rattle.kv_model.specs.Acts.{Act}
use Rattle.kv_model.specs.Configuration.{Configuration, IsLegal, configure}
use Rattle.kv_script.specs.declared.form.Form.{Form}
use Rattle.kv_replay.specs.Faults.{IsWriteOrMemory}
use Rattle.kv_replay.proofs.Ending.{by_cause}
use Rattle.kv_replay.proofs.Progress.{starts}
use Rattle.kv_replay.specs.Sessions.{outside}
use Rattle.kv_durable.specs.Durables.{state_of}
use Rattle.kv_durable.specs.Refusals.{IsDamaged}
use Rattle.kv_durable.specs.declared.error.DurableError.{DurableError}
use Rattle.kv_durable.specs.declared.error.DurableError.TheVariants.{FileBusy, FileDamaged, FileFault, OtherBucket, Refused}
use Rattle.kv_durable_script.specs.Runs.{EndsBy}
use Rattle.kv_durable_script.specs.Scripts.{CanBeScript, IsScript}
use Rattle.kv_durable_script.proofs.Scripting.{can_be_script}
use Rattle.kv_run.specs.Arguments.{Wanted, is_in_memory}
use Rattle.kv_run.specs.Clashes.{clash_of}
use Rattle.kv_run.specs.Files.{DumpEndsBy, EndsOnFile, IsUnbegun, RunEndsBy}
use Rattle.kv_run.specs.Programs.{fault_text, AreWrong, IsShown, ShowingEnds, Shows}
use Rattle.kv_run.specs.Telling.{TellsBehind, TellsTorn, file_fault_text, file_status, torn_line, torn_of, torn_text}

-- ---- words that clash

-- words that speak of no file do not
no_clash : (config : Configuration) (race : Option ℕ) (form : Form) (journal sync dump : Option Text) → ((is_none journal && is_none sync) && is_none dump) ≡ true
    → clash_of (record { config = config; race = race; form = form; journal = journal; sync = sync; dump = dump }) ≡ None
no_clash config None form None None None e = refl
no_clash config (Some n) form None None None e = refl
no_clash config race form (Some path) sync dump e = absurd (true≢false (sym e))
no_clash config race form None (Some word) dump e = absurd (true≢false (sym e))
no_clash config race form None None (Some path) e = absurd (true≢false (sym e))

pub in_memory_fine : (wanted : Wanted) → is_in_memory wanted ≡ true → clash_of wanted ≡ None
in_memory_fine wanted e = no_clash wanted.config wanted.race wanted.form wanted.journal wanted.sync wanted.dump e

pub same_some : {X : Type 0} (x y : X) (o : Option X) → Some x ≡ o → o ≡ Some y → x ≡ y
same_some {X} x y o here there = let both : Some x ≡ Some y = here ∙ there in cc

pub some_none : {X P : Type 0} (x : X) (o : Option X) → Some x ≡ o → o ≡ None → P
some_none {X} {P} x o here there = absurd (let no : ⊥ = (let both : Some x ≡ None = here ∙ there in cc) in no)

-- ---- a file on which nothing was begun

refused_unbegun : (config : Configuration) (x : KvError) → configure config ≡ Err x → IsUnbegun config (Refused x)
refused_unbegun config OutOfMemory h = tt
refused_unbegun config BadBucket h = h
refused_unbegun config BadConfig h = h
refused_unbegun config BadKey h = h
refused_unbegun config BadFilter h = h
refused_unbegun config OptionsClash h = h
refused_unbegun config ValueTooLarge h = h
refused_unbegun config Sealed h = h
refused_unbegun config JournalFull h = h
refused_unbegun config KeyExists h = h
refused_unbegun config (WrongLastRevision last) h = h
refused_unbegun config KeyNotFound h = h
refused_unbegun config NoSuchWatch h = h
refused_unbegun config TooManyWatches h = h
refused_unbegun config NoReader h = h
refused_unbegun config BadCommand h = h
refused_unbegun config ReadFault h = h
refused_unbegun config WriteFault h = h
refused_unbegun config BadFloor h = h
refused_unbegun config (WatchBehind watch) h = h
refused_unbegun config (Lagged floor) h = h

-- the configuration is refused
pub unbegun_config : (config asked : Configuration) (x : KvError) (e : DurableError) → config ≡ asked → configure config ≡ Err x → e ≡ Refused x → IsUnbegun asked e
unbegun_config config asked x e same refused is = subst (λ (e : DurableError). IsUnbegun asked e) (sym is)
    (refused_unbegun asked x (subst (λ (c : Configuration). configure c ≡ Err x) same refused))

-- memory ran out
pub unbegun_memory : (config : Configuration) (e : DurableError) → e ≡ Refused OutOfMemory → IsUnbegun config e
unbegun_memory config e is = subst (λ (e : DurableError). IsUnbegun config e) (sym is) tt

-- a call of the system failed
pub unbegun_fault : (config : Configuration) (e : DurableError) → IsLegal config → e ≡ FileFault → IsUnbegun config e
unbegun_fault config e legal is = subst (λ (e : DurableError). IsUnbegun config e) (sym is) legal

pub unbegun_read : (config : Configuration) (e : DurableError) → IsLegal config → (e ≡ Refused OutOfMemory) ⊎ (e ≡ FileFault) → IsUnbegun config e
unbegun_read config e legal why = elim why [
  | inl memory ↦ unbegun_memory config e memory
  | inr fault ↦ unbegun_fault config e legal fault
]

-- whatever refused a file of a legal configuration
pub unbegun : (config : Configuration) (e : DurableError) → IsLegal config → ((x : KvError) → e ≡ Refused x → Refuses x (configure config)) → IsUnbegun config e
unbegun config (Refused x) legal refused = elim (by_cause x (configure config) (refused x refl)) [
  | inl memory ↦ unbegun_memory config (Refused x) (ap Refused memory.0)
  | inr other ↦ refused_unbegun config x other
]
unbegun config FileFault legal refused = legal
unbegun config (FileDamaged at) legal refused = legal
unbegun config FileBusy legal refused = legal
unbegun config OtherBucket legal refused = legal

-- ---- a dump that ended early

legal_memory : (config : Configuration) (x : KvError) → configure config ≡ Ok config → Refuses x (configure config) → x ≡ OutOfMemory
legal_memory config x legal refused = elim (by_cause x (configure config) refused) [
  | inl memory ↦ memory.0
  | inr other ↦ absurd (let no : ⊥ = cc (legal, other) in no)
]

module _ (config : Configuration) (bytes : List ℕ) (held holds : Option (List ℕ)) (Same WriterFailed : Type 0) (still : Same → holds ≡ held) (legal : IsLegal config) (fine : configure config ≡ Ok config) where
  abbrev Dumped : Type 0
  Dumped = IsLegal config × (script text : List ℕ) × CanBeScript config script × StartsWith script text × Appends held holds text

  abbrev DumpEnds : DurableError → Type 0
  DumpEnds e = (IsUnbegun config e × Same) ⊎ DumpEndsBy config held holds WriterFailed e

  nothing_dumped : Same → Dumped
  nothing_dumped same = (legal, [], [], inl ([], tt, refl), refl, subst (λ (h : Option (List ℕ)). Appends held h []) (sym (still same)) (Appends-nil held))

  dump_memory : Same ⊎ Dumped → DumpEnds (Refused OutOfMemory)
  dump_memory early = elim early [
    | inl same ↦ inl (tt, same)
    | inr dumped ↦ inr (dumped, inl refl)
  ]

  dump_write : WriterFailed → Same ⊎ Dumped → DumpEnds (Refused WriteFault)
  dump_write failed early = inr (
    elim early [
      | inl same ↦ nothing_dumped same
      | inr dumped ↦ dumped
    ],
    inr (refl, failed),
  )

  abbrev Early : DurableError → Type 0
  Early e = Same ⊎ (((x : KvError) × (e ≡ Refused x) × IsWriteOrMemory x)
      × ((script : List ℕ) × IsScript config bytes script × (text : List ℕ) × StartsWith script text × Appends held holds text))

  some_dumped : (e : DurableError) → Early e → Same ⊎ Dumped
  some_dumped e early = elim early [
    | inl same ↦ inl same
    | inr dumped ↦ inr (legal, dumped.1.0, dumped.1.2, can_be_script config bytes dumped.1.0 dumped.1.1, dumped.1.3, dumped.1.4)
  ]

  dump_ended : (e : DurableError) → Early e → ((x : KvError) → e ≡ Refused x → (x ≡ WriteFault) ⊎ Refuses x (configure config)) → (e ≡ Refused WriteFault → WriterFailed) → DumpEnds e
  dump_ended (Refused x) early refused failed = elim (refused x refl) [
    | inl write ↦ subst (λ (x : KvError). DumpEnds (Refused x)) (sym write) (dump_write (failed (ap Refused write)) (some_dumped (Refused x) early))
    | inr rules ↦ subst (λ (x : KvError). DumpEnds (Refused x)) (sym (legal_memory config x fine rules)) (dump_memory (some_dumped (Refused x) early))
  ]
  dump_ended FileFault early refused failed = elim early [
    | inl same ↦ inl (legal, same)
    | inr dumped ↦ absurd (let no : ⊥ = cc dumped.0.1 in no)
  ]
  dump_ended FileBusy early refused failed = elim early [
    | inl same ↦ inl (legal, same)
    | inr dumped ↦ absurd (let no : ⊥ = cc dumped.0.1 in no)
  ]
  dump_ended (FileDamaged at) early refused failed = elim early [
    | inl same ↦ inl (legal, same)
    | inr dumped ↦ absurd (let no : ⊥ = cc dumped.0.1 in no)
  ]
  dump_ended OtherBucket early refused failed = elim early [
    | inl same ↦ inl (legal, same)
    | inr dumped ↦ absurd (let no : ⊥ = cc dumped.0.1 in no)
  ]

  -- all was dumped, and memory for what is told of it ran out
  dumped_untold : (script : List ℕ) (e : DurableError) → IsScript config bytes script → Appends held holds script → e ≡ Refused OutOfMemory → DumpEnds e
  dumped_untold script e of_bytes written is = subst (λ (e : DurableError). DumpEnds e) (sym is)
      (inr ((legal, script, script, can_be_script config bytes script of_bytes, starts script script [] (sym (append-nil script)), written), inl refl))

-- the same of a configuration that is found, and is the one that is asked for
module _ (found config : Configuration) (is : found ≡ config) (bytes : List ℕ) (held holds : Option (List ℕ)) (Same WriterFailed : Type 0) (still : Same → holds ≡ held) (legal : IsLegal config) (fine : configure config ≡ Ok config) where
  pub found_legal : IsLegal found
  found_legal = subst (λ (c : Configuration). IsLegal c) (sym is) legal

  pub found_fine : configure found ≡ Ok found
  found_fine = subst (λ (c : Configuration). configure c ≡ Ok c) (sym is) fine

  abbrev AskedEnds : DurableError → Type 0
  AskedEnds e = (IsUnbegun config e × Same) ⊎ DumpEndsBy config held holds WriterFailed e

  pub dump_ended_as : (e : DurableError) → Early found bytes held holds Same WriterFailed still found_legal found_fine e
      → ((x : KvError) → e ≡ Refused x → (x ≡ WriteFault) ⊎ Refuses x (configure found)) → (e ≡ Refused WriteFault → WriterFailed) → AskedEnds e
  dump_ended_as e early refused failed =
      subst (λ (c : Configuration). (IsUnbegun c e × Same) ⊎ DumpEndsBy c held holds WriterFailed e) is
      (dump_ended found bytes held holds Same WriterFailed still found_legal found_fine e early refused failed)

  pub dumped_untold_as : (script : List ℕ) (e : DurableError) → IsScript found bytes script → Appends held holds script → e ≡ Refused OutOfMemory → AskedEnds e
  dumped_untold_as script e of_bytes written none =
      subst (λ (c : Configuration). (IsUnbegun c e × Same) ⊎ DumpEndsBy c held holds WriterFailed e) is
      (dumped_untold found bytes held holds Same WriterFailed still found_legal found_fine script e of_bytes written none)

-- ---- what was told and done of the file that the words name

pub told_kept : {Failed : Type 0} (wanted : Wanted) (path : Text) (told tells : Option Text) → Some path ≡ wanted.journal
    → ((torn : ℕ) × Appends told tells (torn_text (codes "dropped") torn path)) ⊎ Failed → TellsTorn wanted told tells Failed
told_kept {Failed} wanted path told tells is line =
    subst (λ (journal : Option Text). ((torn : ℕ) × Appends told tells (torn_of journal wanted.dump torn)) ⊎ Failed) is line

pub told_shown : {Failed : Type 0} (wanted : Wanted) (path : Text) (told tells : Option Text) → None ≡ wanted.journal → Some path ≡ wanted.dump
    → ((torn : ℕ) × Appends told tells (torn_text (codes "left out") torn path)) ⊎ Failed → TellsTorn wanted told tells Failed
told_shown {Failed} wanted path told tells none is line =
    subst (λ (journal : Option Text). ((torn : ℕ) × Appends told tells (torn_of journal wanted.dump torn)) ⊎ Failed) none
    (subst (λ (dump : Option Text). ((torn : ℕ) × Appends told tells (torn_of None dump torn)) ⊎ Failed) is line)

pub told_nothing : {Failed : Type 0} (wanted : Wanted) (told : Option Text) → None ≡ wanted.journal → None ≡ wanted.dump → TellsTorn wanted told told Failed
told_nothing {Failed} wanted told none nor =
    subst (λ (journal : Option Text). ((torn : ℕ) × Appends told told (torn_of journal wanted.dump torn)) ⊎ Failed) none
    (subst (λ (dump : Option Text). ((torn : ℕ) × Appends told told (torn_of None dump torn)) ⊎ Failed) nor (inl (0, Appends-nil told)))

module _ (wanted : Wanted) (path : Text) (unread left held holds : Option (List ℕ)) (ReaderFailed WriterFailed Still Behind : Type 0) where
  pub ends_kept : {Same : Type 0} → Some path ≡ wanted.journal → Behind → (e : DurableError)
      → (IsUnbegun wanted.config e × (Same × Still)) ⊎ RunEndsBy wanted.form wanted.config unread left held holds ReaderFailed WriterFailed e
      → EndsOnFile wanted unread left held holds Same ReaderFailed WriterFailed Still Behind e
  ends_kept {Same} is behind e ends = elim ends [
    | inl none ↦ inl none
    | inr run ↦ inr (inl (path, sym is, (run, behind)))
  ]

  pub ends_shown : {Same Unwritten : Type 0} → None ≡ wanted.journal → Some path ≡ wanted.dump → left ≡ unread → (Unwritten → Same) → Still → (e : DurableError)
      → (IsUnbegun wanted.config e × Unwritten) ⊎ DumpEndsBy wanted.config held holds WriterFailed e
      → EndsOnFile wanted unread left held holds Same ReaderFailed WriterFailed Still Behind e
  ends_shown {Same} {Unwritten} none is unread_still same still e ends = elim ends [
    | inl nothing ↦ inl (nothing.0, (same nothing.1, still))
    | inr dump ↦ inr (inr (path, sym none, sym is, unread_still, (dump, still)))
  ]

-- ---- what is told in the end

module _ (wanted : Wanted) (unread left held holds : Option (List ℕ)) (Same ReaderFailed WriterFailed Still Torn : Type 0) where
  abbrev Ends : DurableError → Type 0
  Ends e = EndsOnFile wanted unread left held holds Same ReaderFailed WriterFailed Still Torn e

  -- by an error that ends neither a run nor a dump, nothing was begun
  never_begun : (e : DurableError) → ((acts : List Act) → EndsBy wanted.form (outside (state_of wanted.config acts)) unread left held holds e → ⊥)
      → ¬ (e ≡ Refused OutOfMemory) → ¬ (e ≡ Refused WriteFault) → Ends e → IsUnbegun wanted.config e × (Same × Still)
  never_begun e no_run no_memory no_write ends = elim ends [
    | inl nothing ↦ nothing
    | inr other ↦ elim other [
      | inl run ↦ absurd (no_run run.2.0.0.1 run.2.0.0.3)
      | inr dump ↦ absurd (elim dump.4.0.1 [
        | inl memory ↦ no_memory memory
        | inr write ↦ no_write write.0
      ])
    ]
  ]

  -- damage is found before anything is read or written
  damaged_unbegun : (e : DurableError) → IsDamaged e → Ends e → Same × Still
  damaged_unbegun (FileDamaged at) damaged ends =
      (never_begun (FileDamaged at) (λ acts run. run) (λ memory. let no : ⊥ = cc memory in no) (λ write. let no : ⊥ = cc write in no) ends).1
  damaged_unbegun (Refused error) damaged ends = absurd damaged
  damaged_unbegun FileFault damaged ends = absurd damaged
  damaged_unbegun FileBusy damaged ends = absurd damaged
  damaged_unbegun OtherBucket damaged ends = absurd damaged

  abbrev IsOfConfiguration : DurableError → Type 0
  IsOfConfiguration e = (error : KvError) × (e ≡ Refused error) × (configure wanted.config ≡ Err error) × (Same × Still)

  bad_bucket : Ends (Refused BadBucket) → IsOfConfiguration (Refused BadBucket)
  bad_bucket ends =
      let nothing = never_begun (Refused BadBucket) (λ acts run. run) (λ memory. let no : ⊥ = cc memory in no) (λ write. let no : ⊥ = cc write in no) ends in
      (BadBucket, refl, nothing.0, nothing.1)

  bad_config : Ends (Refused BadConfig) → IsOfConfiguration (Refused BadConfig)
  bad_config ends =
      let nothing = never_begun (Refused BadConfig) (λ acts run. run) (λ memory. let no : ⊥ = cc memory in no) (λ write. let no : ⊥ = cc write in no) ends in
      (BadConfig, refl, nothing.0, nothing.1)

  -- an error with the status 2 is a refusal of the configuration
  pub of_configuration : (e : DurableError) → file_status e ≡ 2 → Ends e → IsOfConfiguration e
  of_configuration (Refused BadBucket) two ends = bad_bucket ends
  of_configuration (Refused BadConfig) two ends = bad_config ends
  of_configuration (Refused OutOfMemory) two ends = absurd (omega (arith, two))
  of_configuration (Refused BadKey) two ends = absurd (omega (arith, two))
  of_configuration (Refused BadFilter) two ends = absurd (omega (arith, two))
  of_configuration (Refused OptionsClash) two ends = absurd (omega (arith, two))
  of_configuration (Refused ValueTooLarge) two ends = absurd (omega (arith, two))
  of_configuration (Refused Sealed) two ends = absurd (omega (arith, two))
  of_configuration (Refused JournalFull) two ends = absurd (omega (arith, two))
  of_configuration (Refused KeyExists) two ends = absurd (omega (arith, two))
  of_configuration (Refused (WrongLastRevision last)) two ends = absurd (omega (arith, two))
  of_configuration (Refused KeyNotFound) two ends = absurd (omega (arith, two))
  of_configuration (Refused NoSuchWatch) two ends = absurd (omega (arith, two))
  of_configuration (Refused TooManyWatches) two ends = absurd (omega (arith, two))
  of_configuration (Refused NoReader) two ends = absurd (omega (arith, two))
  of_configuration (Refused BadCommand) two ends = absurd (omega (arith, two))
  of_configuration (Refused ReadFault) two ends = absurd (omega (arith, two))
  of_configuration (Refused WriteFault) two ends = absurd (omega (arith, two))
  of_configuration (Refused BadFloor) two ends = absurd (omega (arith, two))
  of_configuration (Refused (WatchBehind watch)) two ends = absurd (omega (arith, two))
  of_configuration (Refused (Lagged floor)) two ends = absurd (omega (arith, two))
  of_configuration FileFault two ends = absurd (omega (arith, two))
  of_configuration (FileDamaged at) two ends = absurd (omega (arith, two))
  of_configuration FileBusy two ends = absurd (omega (arith, two))
  of_configuration OtherBucket two ends = absurd (omega (arith, two))

  -- what was told since, beside why it ended
  ends_telling : {Alone Behind : Type 0} (e : DurableError) → (Still → Alone) → (Torn → Behind) → Ends e → EndsOnFile wanted unread left held holds Same ReaderFailed WriterFailed Alone Behind e
  ends_telling {Alone} {Behind} e alone behind ends = elim ends [
    | inl nothing ↦ inl (nothing.0, (nothing.1.0, alone nothing.1.1))
    | inr other ↦ elim other [
      | inl run ↦ inr (inl (run.0, run.1, (run.2.0, behind run.2.1)))
      | inr dump ↦ inr (inr (dump.0, dump.1, dump.2, dump.3, (dump.4.0, alone dump.4.1)))
    ]
  ]

-- one text behind another
tells_behind : {F1 F2 Failed : Type 0} (wanted : Wanted) (told mid tells : Option Text) (text : Text) → TellsTorn wanted told mid F1 → Appends mid tells text ⊎ F2
    → (F1 → Failed) → (F2 → Failed) → TellsBehind wanted told tells Failed text
tells_behind {F1} {F2} {Failed} wanted told mid tells text first second early late = elim first [
  | inr failed ↦ inr (early failed)
  | inl torn ↦ elim second [
    | inr failed ↦ inr (late failed)
    | inl line ↦ inl (torn.0, Appends-trans told mid tells (torn_line wanted torn.0) text torn.1 line)
  ]
]

tells_alone : {F2 Failed : Type 0} (told mid tells : Option Text) (text : Text) → mid ≡ told → Appends mid tells text ⊎ F2 → (F2 → Failed) → Appends told tells text ⊎ Failed
tells_alone {F2} {Failed} told mid tells text still line late = elim line [
  | inl all ↦ inl (subst (λ (t : Option Text). Appends t tells text) still all)
  | inr failed ↦ inr (late failed)
]

-- a refusal of the configuration
pub told_refused : {Failed Late : Type 0} (x : KvError) (e : DurableError) (told mid tells : Option Text) → e ≡ Refused x → mid ≡ told
    → (Appends mid tells (file_fault_text e) ⊎ (IsDamaged e × Appends mid tells (file_fault_text (Refused OutOfMemory)))) ⊎ Late → (Late → Failed) → Appends told tells (fault_text x) ⊎ Failed
told_refused {Failed} {Late} x e told mid tells is still line late =
    tells_alone told mid tells (fault_text x) still
    (by (subst (λ (e : DurableError). (Appends mid tells (file_fault_text e) ⊎ (IsDamaged e × Appends mid tells (file_fault_text (Refused OutOfMemory)))) ⊎ Late) is line)) late
  where
    by : (Appends mid tells (file_fault_text (Refused x)) ⊎ (IsDamaged (Refused x) × Appends mid tells (file_fault_text (Refused OutOfMemory)))) ⊎ Late → Appends mid tells (fault_text x) ⊎ Late
    by (inl (inl all)) = inl all
    by (inl (inr damaged)) = absurd damaged.0
    by (inr failed) = inr failed

-- an error that ended what the words ask for, as it is told
module _ (wanted : Wanted) (unread left held holds told mid tells : Option (List ℕ)) (Same ReaderFailed WriterFailed Still Early Late Failed : Type 0) where
  abbrev Stops : Type 0
  Stops = (error : DurableError) × ((file_status error ≡ 1)
      × EndsOnFile wanted unread left held holds Same ReaderFailed WriterFailed (Appends told tells (file_fault_text error) ⊎ Failed) (TellsBehind wanted told tells Failed (file_fault_text error)) error)

  stops : (e : DurableError) → file_status e ≡ 1 → EndsOnFile wanted unread left held holds Same ReaderFailed WriterFailed Still (TellsTorn wanted told mid Early) e
      → (Still → mid ≡ told) → Appends mid tells (file_fault_text e) ⊎ Late → (Early → Failed) → (Late → Failed) → Stops
  stops e one ends still line early late = (
    e,
    (
      one,
      ends_telling wanted unread left held holds Same ReaderFailed WriterFailed Still (TellsTorn wanted told mid Early) e
          (λ same. tells_alone told mid tells (file_fault_text e) (still same) line late)
          (λ torn. tells_behind wanted told mid tells (file_fault_text e) torn line early late) ends,
    ),
  )

  pub stops_by : (e : DurableError) → file_status e ≡ 1 → EndsOnFile wanted unread left held holds Same ReaderFailed WriterFailed Still (TellsTorn wanted told mid Early) e
      → (Still → mid ≡ told) → (Appends mid tells (file_fault_text e) ⊎ (IsDamaged e × Appends mid tells (file_fault_text (Refused OutOfMemory)))) ⊎ Late
      → (Early → Failed) → (Late → Failed) → Stops
  stops_by e one ends still line early late = elim line [
    | inr failed ↦ stops e one ends still (inr failed) early late
    | inl some ↦ elim some [
      | inl all ↦ stops e one ends still (inl all) early late
      | inr damaged ↦
          let same = damaged_unbegun wanted unread left held holds Same ReaderFailed WriterFailed Still (TellsTorn wanted told mid Early) e damaged.0 ends in
          stops (Refused OutOfMemory) refl (inl (tt, same)) still (inl damaged.1) early late
    ]
  ]

-- ---- words that were not looked at to their end, though they are fine: memory ran out

none_shown : (text : Text) → Shows [] text → ⊥
none_shown text shows = elim shows [
  | inl help ↦ help.0
  | inr version ↦ version.0
]

none_wrong : AreWrong [] → ⊥
none_wrong wrong = wrong.1.0

pub not_done : (held holds : Option (List ℕ)) (kinds : Kinds) → kinds ≡ [] → IsShown kinds held holds → ⊥
not_done held holds kinds none shown = none_shown shown.0 (subst (λ (k : Kinds). Shows k shown.0) none shown.1.0)

pub not_wrong : (kinds : Kinds) → kinds ≡ [] → AreWrong kinds → ⊥
not_wrong kinds none wrong = none_wrong (subst (λ (k : Kinds). AreWrong k) none wrong)

pub only_memory : {WriterFailed Same : Type 0} (held holds : Option (List ℕ)) (kinds : Kinds) → kinds ≡ [] → (cause : KvError)
    → (ShowingEnds kinds held holds cause × WriterFailed) ⊎ ((cause ≡ OutOfMemory) × Same) → (cause ≡ OutOfMemory) × Same
only_memory {WriterFailed} {Same} held holds kinds none cause ends = elim ends [
  | inl shown ↦ absurd (none_shown shown.0.1.0 (subst (λ (k : Kinds). Shows k shown.0.1.0) none shown.0.1.1.0))
  | inr memory ↦ memory
]

pub three : (n : ℕ) → n ≤ 2 → (n ≡ 0) ⊎ ((n ≡ 1) ⊎ (n ≡ 2))
three zero fits = inl refl
three (suc zero) fits = inr (inl refl)
three (suc (suc zero)) fits = inr (inr refl)
three (suc (suc (suc n))) fits = absurd (omega (arith, fits))
