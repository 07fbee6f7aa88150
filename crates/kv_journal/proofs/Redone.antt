-- One act that is done again, and what can't be.
use Rattle.std.proofs.Common.{◌≡◌, ◌≢◌, ℕ, ◌+◌, ◌^◌, ◌<◌, ◌≤◌, true, false, ◌||◌, ◌==◌, List, [], ◌∷◌, ◌++◌, length, get_or, take, drop, append-nil, append_assoc, Err, refl, sym, ap, ◌∙◌, subst, arith}
use Rattle.std.specs.Prelude.{nat_lt, Bool, Option, Some, MatchOption, Result, Ok, OnOk}
use Rattle.std.specs.Int.{w32, w64, to_be_bytes}
use Rattle.kv_frames.proofs.Fronts.{same_number as same_length}
use Rattle.std.proofs.lemmas.Bool.{or_parts, ltb-false, true≢false}
use Rattle.kv_keys.specs.declared.error.KvError.{KvError}
use Rattle.kv_model.specs.Acceptance.{accept, IsAccepted, LawfulFrom}
use Rattle.kv_model.specs.Acts.{Act, Wrote, Seal, Compact, Write, writes_of, floor_of}
use Rattle.kv_model.specs.Compaction.{is_bad_floor}
use Rattle.kv_model.specs.Configuration.{Configuration}
use Rattle.kv_model.specs.Requests.{Asked, asked, key_of, op_of, value_of, write_for}
use Rattle.kv_model.proofs.Numbered.{accepted_is_next}
use Rattle.kv_store.specs.Standing.{StandsFor}
use Rattle.kv_store.specs.Stored.{Stored}
use Rattle.kv_journal.specs.Records.{Content, did, did_all, closed, kind_of, act_record, record_of}
use Rattle.kv_journal.specs.Entries.{Entry, payload_of, IsLawfulContent, IsLawfulEntry}
use Rattle.kv_journal.specs.Says.{Says, SaysWrite}
use Rattle.kv_journal.specs.declared.decode.Record.{Record}
use Rattle.kv_journal.specs.declared.decode.Record.TheVariants as records
use Rattle.kv_model.specs.declared.request.Request.{Request}
use Rattle.kv_journal.specs.inside.Redoes.{Redoes, RedoesEntry}
use Rattle.kv_journal.proofs.Saying.{kind_low, same_fields, same_write, same_number}
use Rattle.kv_journal.proofs.Accepting.{plain_is_accepted}

abbrev first : List ℕ → ℕ
first xs = get_or xs 0 0

seal_is_no_write : (request : Asked) (bytes : List ℕ) → SaysWrite request bytes → 4 ∷ [] ≡ bytes → ⊥
seal_is_no_write request bytes says e =
    let d : 4 ≡ kind_of (op_of request) = ap first (e ∙ says.says) in
    omega (arith, d, kind_low (op_of request))

compaction_is_no_write : (request : Asked) (bytes : List ℕ) (floor : ℕ) → SaysWrite request bytes → 5 ∷ to_be_bytes w64 floor ≡ bytes → ⊥
compaction_is_no_write request bytes floor says e =
    let d : 5 ≡ kind_of (op_of request) = ap first (e ∙ says.says) in
    omega (arith, d, kind_low (op_of request))

-- of lawful acts the last one is accepted behind the others
pub last_is_accepted : (config : Configuration) (before acts : List Act) (act : Act) → LawfulFrom config before (acts ++ act ∷ []) → IsAccepted config (before ++ acts) act
last_is_accepted config before [] act h = subst (λ (xs : List Act). IsAccepted config xs act) (sym (append-nil before)) h.0
last_is_accepted config before (a ∷ acts) act h =
    subst (λ (xs : List Act). IsAccepted config xs act) (append_assoc before (a ∷ []) acts) (last_is_accepted config (before ++ a ∷ []) acts act h.1)

-- an act that a version has behind those of another one is accepted there
is_accepted : (old new : Stored) (act : Act) → new.config ≡ old.config → ((acts : List Act) → StandsFor acts old → StandsFor (acts ++ act ∷ []) new) → (acts : List Act) → StandsFor acts old → IsAccepted old.config acts act
is_accepted old new act same on acts stands =
    subst (λ (config : Configuration). IsAccepted config acts act) same (last_is_accepted new.config [] acts act (on acts stands).lawful)

-- what has a record of another kind than 9 is an act
only_act : (config : Configuration) (bytes : List ℕ) (acts : List Act) (act : Act) → first bytes < 9 → ((other : Act) → act_record other ≡ bytes → IsAccepted config acts other → other ≡ act)
    → (other : Content) → record_of other ≡ bytes → IsLawfulContent config acts other → other ≡ did act
only_act config bytes acts act low only (did other) e h = ap did (only other e h)
only_act config bytes acts act low only (did_all others) e h =
    let d : 10 ≡ first bytes = ap first e in
    absurd (omega (arith, d, low))
only_act config bytes acts act low only (closed last) e h =
    let d : 9 ≡ first bytes = ap first e in
    absurd (omega (arith, d, low))

no_act : (config : Configuration) (bytes : List ℕ) (acts : List Act) → first bytes < 9 → ((other : Act) → act_record other ≡ bytes → IsAccepted config acts other → ⊥)
    → (other : Content) → record_of other ≡ bytes → IsLawfulContent config acts other → ⊥
no_act config bytes acts low none (did other) e h = none other e h
no_act config bytes acts low none (did_all others) e h =
    let d : 10 ≡ first bytes = ap first e in
    omega (arith, d, low)
no_act config bytes acts low none (closed last) e h =
    let d : 9 ≡ first bytes = ap first e in
    omega (arith, d, low)

write_low : (request : Asked) (bytes : List ℕ) → SaysWrite request bytes → first bytes < 9
write_low request bytes says = omega (arith, ap first says.says, kind_low (op_of request))

only_write : (config : Configuration) (request : Asked) (bytes : List ℕ) (last : ℕ) → SaysWrite request bytes
    → (acts : List Act) → last ≡ length (writes_of acts) → (other : Act) → act_record other ≡ bytes → IsAccepted config acts other → other ≡ Wrote (write_for request (last + 1))
only_write config request bytes last says acts count (Wrote w) e h =
    let parts = same_write w.op (op_of request) w.key (key_of request) w.value (value_of request) (e ∙ says.says) in
    let next = accepted_is_next config h.0 acts w h.1.1 in
    let revision : w.revision ≡ last + 1 = ap (λ (v : Write). v.revision) (sym next) ∙ ap (λ (n : ℕ). n + 1) (sym count) in
    ap Wrote (same_fields w (write_for request (last + 1)) parts.1 parts.0 parts.2 revision)
only_write config request bytes last says acts count Seal e h = absurd (seal_is_no_write request bytes says e)
only_write config request bytes last says acts count (Compact floor) e h = absurd (compaction_is_no_write request bytes floor says e)

pub write_redone : (request : Asked) (bytes : List ℕ) (old new : Stored) → new.config ≡ old.config → SaysWrite request bytes
    → ((acts : List Act) → StandsFor acts old → StandsFor (acts ++ Wrote (write_for request (old.last + 1)) ∷ []) new)
    → Redoes bytes (did (Wrote (write_for request (old.last + 1)))) old new
write_redone request bytes old new same says on = record {
  has = sym says.says;
  on = on;
  lawful = is_accepted old new (Wrote (write_for request (old.last + 1))) same on;
  only = λ acts stands. only_act old.config bytes acts (Wrote (write_for request (old.last + 1))) (write_low request bytes says) (only_write old.config request bytes old.last says acts stands.last);
}

no_write_act : (config : Configuration) (request : Asked) (bytes : List ℕ) (acts : List Act) → SaysWrite request bytes
    → (e : KvError) × (accept config request acts ≡ Err e) → (act : Act) → act_record act ≡ bytes → IsAccepted config acts act → ⊥
no_write_act config request bytes acts says err (Wrote w) e h =
    let parts = same_write w.op (op_of request) w.key (key_of request) w.value (value_of request) (e ∙ says.says) in
    let next = accepted_is_next config h.0 acts w h.1.1 in
    let value : value_of h.0 ≡ w.value = ap (λ (v : Write). v.value) next in
    plain_is_accepted config request h.0 acts w err.0 says.plain (sym (value ∙ parts.2)) h.1.1 err.1
no_write_act config request bytes acts says err Seal e h = seal_is_no_write request bytes says e
no_write_act config request bytes acts says err (Compact floor) e h = compaction_is_no_write request bytes floor says e

pub no_write_redone : (config : Configuration) (request : Asked) (bytes : List ℕ) (acts : List Act) → SaysWrite request bytes
    → (e : KvError) × (accept config request acts ≡ Err e) → (content : Content) → record_of content ≡ bytes → IsLawfulContent config acts content → ⊥
no_write_redone config request bytes acts says err = no_act config bytes acts (write_low request bytes says) (no_write_act config request bytes acts says err)

-- ---- seals

only_seal : (config : Configuration) (bytes : List ℕ) (acts : List Act) → bytes ≡ 4 ∷ [] → (other : Act) → act_record other ≡ bytes → IsAccepted config acts other → other ≡ Seal
only_seal config bytes acts says (Wrote w) e h =
    let d : kind_of w.op ≡ 4 = ap first (e ∙ says) in
    absurd (omega (arith, d, kind_low w.op))
only_seal config bytes acts says Seal e h = refl
only_seal config bytes acts says (Compact floor) e h =
    let d : 5 ≡ 4 = ap first (e ∙ says) in
    absurd (omega (arith, d))

pub seal_redone : (bytes : List ℕ) (old new : Stored) → new.config ≡ old.config → bytes ≡ 4 ∷ [] → ((acts : List Act) → StandsFor acts old → StandsFor (acts ++ Seal ∷ []) new) → Redoes bytes (did Seal) old new
seal_redone bytes old new same says on = record {
  has = sym says;
  on = on;
  lawful = is_accepted old new (Seal) same on;
  only = λ acts stands. only_act old.config bytes acts Seal (omega (arith, ap first says)) (only_seal old.config bytes acts says);
}

-- ---- compactions

floor_within : (floor : ℕ) (acts : List Act) → is_bad_floor floor acts ≡ false → floor ≤ length (writes_of acts)
floor_within floor acts h =
    let one = or_parts (floor == 0) (nat_lt (length (writes_of acts)) floor || nat_lt floor (floor_of acts)) h in
    let two = or_parts (nat_lt (length (writes_of acts)) floor) (nat_lt floor (floor_of acts)) one.1 in
    ltb-false (length (writes_of acts)) floor two.0

only_compaction : (config : Configuration) (bytes : List ℕ) (floor last : ℕ) → floor < 2 ^ 64 → last < 2 ^ 64 → bytes ≡ 5 ∷ to_be_bytes w64 floor
    → (acts : List Act) → last ≡ length (writes_of acts) → (other : Act) → act_record other ≡ bytes → IsAccepted config acts other → other ≡ Compact floor
only_compaction config bytes floor last few late says acts count (Wrote w) e h =
    let d : kind_of w.op ≡ 5 = ap first (e ∙ says) in
    absurd (omega (arith, d, kind_low w.op))
only_compaction config bytes floor last few late says acts count Seal e h =
    let d : 4 ≡ 5 = ap first (e ∙ says) in
    absurd (omega (arith, d))
only_compaction config bytes floor last few late says acts count (Compact f) e h =
    let within : f < 2 ^ 64 = omega (arith, floor_within f acts h, count, late) in
    ap Compact (same_number f floor within few (ap (λ (xs : List ℕ). drop 1 xs) (e ∙ says)))

pub compaction_redone : (bytes : List ℕ) (floor : ℕ) (old new : Stored) → new.config ≡ old.config → floor < 2 ^ 64 → old.last < 2 ^ 64 → bytes ≡ 5 ∷ to_be_bytes w64 floor
    → ((acts : List Act) → StandsFor acts old → StandsFor (acts ++ Compact floor ∷ []) new) → Redoes bytes (did (Compact floor)) old new
compaction_redone bytes floor old new same few late says on = record {
  has = sym says;
  on = on;
  lawful = is_accepted old new (Compact floor) same on;
  only = λ acts stands. only_act old.config bytes acts (Compact floor) (omega (arith, ap first says)) (only_compaction old.config bytes floor old.last few late says acts stands.last);
}

no_compaction_act : (config : Configuration) (bytes : List ℕ) (floor last : ℕ) → floor < 2 ^ 64 → last < 2 ^ 64 → bytes ≡ 5 ∷ to_be_bytes w64 floor
    → (acts : List Act) → last ≡ length (writes_of acts) → is_bad_floor floor acts ≡ true → (act : Act) → act_record act ≡ bytes → IsAccepted config acts act → ⊥
no_compaction_act config bytes floor last few late says acts count bad act e h =
    let same = only_compaction config bytes floor last few late says acts count act e h in
    let good : is_bad_floor floor acts ≡ false = subst (λ (a : Act). IsAccepted config acts a) same h in
    true≢false (sym bad ∙ good)

pub no_compaction_redone : (config : Configuration) (bytes : List ℕ) (floor last : ℕ) → floor < 2 ^ 64 → last < 2 ^ 64 → bytes ≡ 5 ∷ to_be_bytes w64 floor
    → (acts : List Act) → last ≡ length (writes_of acts) → is_bad_floor floor acts ≡ true → (content : Content) → record_of content ≡ bytes → IsLawfulContent config acts content → ⊥
no_compaction_redone config bytes floor last few late says acts count bad = no_act config bytes acts (omega (arith, ap first says)) (no_compaction_act config bytes floor last few late says acts count bad)

-- ---- clean ends

only_end : (config : Configuration) (bytes : List ℕ) (last : ℕ) → last < 2 ^ 64 → bytes ≡ 9 ∷ to_be_bytes w64 last → (acts : List Act) → (other : Content) → record_of other ≡ bytes
    → (writes : ℕ) → writes < 2 ^ 64 → writes ≡ length (writes_of acts) → IsLawfulContent config acts other → other ≡ closed last
only_end config bytes last few says acts (did (Wrote w)) e writes late count h =
    let d : kind_of w.op ≡ 9 = ap first (e ∙ says) in
    absurd (omega (arith, d, kind_low w.op))
only_end config bytes last few says acts (did Seal) e writes late count h =
    let d : 4 ≡ 9 = ap first (e ∙ says) in
    absurd (omega (arith, d))
only_end config bytes last few says acts (did (Compact floor)) e writes late count h =
    let d : 5 ≡ 9 = ap first (e ∙ says) in
    absurd (omega (arith, d))
only_end config bytes last few says acts (did_all others) e writes late count h =
    let d : 10 ≡ 9 = ap first (e ∙ says) in
    absurd (omega (arith, d))
only_end config bytes last few says acts (closed n) e writes late count h =
    let within : n < 2 ^ 64 = omega (arith, h, count, late) in
    ap closed (same_number n last within few (ap (λ (xs : List ℕ). drop 1 xs) (e ∙ says)))

pub end_redone : (bytes : List ℕ) (last : ℕ) (old : Stored) → last < 2 ^ 64 → old.last < 2 ^ 64 → bytes ≡ 9 ∷ to_be_bytes w64 last → last ≡ old.last → Redoes bytes (closed last) old old
end_redone bytes last old few late says same = record {
  has = sym says;
  on = λ acts stands. subst (λ (xs : List Act). StandsFor xs old) (sym (append-nil acts)) stands;
  lawful = λ acts stands. same ∙ stands.last;
  only = λ acts stands other e h. only_end old.config bytes last few says acts other e old.last late stands.last h;
}

pub no_end_redone : (bytes : List ℕ) (last : ℕ) (old : Stored) → last < 2 ^ 64 → old.last < 2 ^ 64 → bytes ≡ 9 ∷ to_be_bytes w64 last → last ≢ old.last
    → (acts : List Act) → StandsFor acts old → (content : Content) → record_of content ≡ bytes → IsLawfulContent old.config acts content → ⊥
no_end_redone bytes last old few late says other acts stands content e h =
    let same = only_end old.config bytes last few says acts content e old.last late stands.last h in
    let told : last ≡ length (writes_of acts) = subst (λ (c : Content). IsLawfulContent old.config acts c) same h in
    other (told ∙ sym stands.last)

-- ---- entries

abbrev front : List ℕ → List ℕ
front xs = take 4 xs

abbrev behind : List ℕ → List ℕ
behind xs = drop 4 xs

parts : (loose other : ℕ) (xs ys : List ℕ) → loose < 2 ^ 32 → other < 2 ^ 32 → to_be_bytes w32 loose ++ xs ≡ to_be_bytes w32 other ++ ys → (loose ≡ other) × (xs ≡ ys)
parts loose other xs ys h k e = (same_length loose other h k (ap front e), ap behind e)

abbrev pub entry_of : ℕ → Content → Entry
entry_of loose content = record { loose = loose; content = content }

same_entry : (other : Entry) (loose : ℕ) (content : Content) → other.loose ≡ loose → other.content ≡ content → other ≡ entry_of loose content
same_entry other loose content l c = ap (λ (n : ℕ). entry_of n other.content) l ∙ ap (λ (d : Content). entry_of loose d) c

pub entry_redone : (payload bytes : List ℕ) (loose : ℕ) (content : Content) (old new : Stored) → loose < 2 ^ 32 → payload ≡ to_be_bytes w32 loose ++ bytes → Redoes bytes content old new
    → RedoesEntry payload (entry_of loose content) old new
entry_redone payload bytes loose content old new few is redoes = record {
  has = ap (λ (xs : List ℕ). to_be_bytes w32 loose ++ xs) redoes.has ∙ sym is;
  on = redoes.on;
  lawful = λ acts stands. (few, redoes.lawful acts stands);
  only = λ acts stands other e h.
      let both = parts other.loose loose (record_of other.content) bytes h.0 few (e ∙ is) in
      same_entry other loose content both.0 (redoes.only acts stands other.content both.1 h.1);
}

pub no_entry_redone : (config : Configuration) (payload bytes : List ℕ) (loose : ℕ) (acts : List Act) → loose < 2 ^ 32 → payload ≡ to_be_bytes w32 loose ++ bytes
    → ((content : Content) → record_of content ≡ bytes → IsLawfulContent config acts content → ⊥)
    → (entry : Entry) → payload_of entry ≡ payload → IsLawfulEntry config acts entry → ⊥
no_entry_redone config payload bytes loose acts few is none entry e h =
    let both = parts entry.loose loose (record_of entry.content) bytes h.0 few (e ∙ is) in
    none entry.content both.1 h.1

pub no_entry : (config : Configuration) (payload : List ℕ) (acts : List Act) → length payload < 4 → (entry : Entry) → payload_of entry ≡ payload → IsLawfulEntry config acts entry → ⊥
no_entry config payload acts short entry e h = omega (arith, short, ap (λ (xs : List ℕ). length xs) e)

-- ---- what was read of a record

pub says_so : (N : Type 0) (o : Option Record) (r : Record) (bytes : List ℕ) → MatchOption o N (λ x. Says x bytes) → o ≡ Some r → Says r bytes
says_so N o r bytes h e = subst (λ (z : Option Record). MatchOption z N (λ x. Says x bytes)) e h

pub says_write : (r : Record) (request : Request) (bytes : List ℕ) → Says r bytes → r ≡ records.Write request → SaysWrite (asked request) bytes
says_write r request bytes h e = subst (λ (z : Record). Says z bytes) e h

pub says_compaction : (r : Record) (floor : ℕ) (bytes : List ℕ) → Says r bytes → r ≡ records.Compact floor → bytes ≡ 5 ∷ to_be_bytes w64 floor
says_compaction r floor bytes h e = subst (λ (z : Record). Says z bytes) e h

pub says_closed : (r : Record) (last : ℕ) (bytes : List ℕ) → Says r bytes → r ≡ records.Closed last → bytes ≡ 9 ∷ to_be_bytes w64 last
says_closed r last bytes h e = subst (λ (z : Record). Says z bytes) e h

pub says_seal : (r : Record) (bytes : List ℕ) → Says r bytes → r ≡ records.Seal → bytes ≡ 4 ∷ []
says_seal r bytes h e = subst (λ (z : Record). Says z bytes) e h

-- what a call that went well has kept
pub kept_at_ok : {P : Type 0} (r : Result Bool KvError) (b : Bool) → OnOk r P → r ≡ Ok b → P
kept_at_ok {P} r b h e = subst (λ (z : Result Bool KvError). OnOk z P) e h

pub ok_is : (a b : Bool) → ◌≡◌ {A = Result Bool KvError} (Ok a) (Ok b) → a ≡ b
ok_is a b e = cc
