-- A request that asks nothing of what was written before is accepted where any with a value of this length is.
use Rattle.std.proofs.Common.{◌≡◌, ℕ, ◌+◌, Bool, true, false, cond, List, [], ◌∷◌, length, Option, None, Result, Ok, Err, refl, sym, ap, ◌∙◌, subst}
use Rattle.std.specs.Prelude.{nat_lt}
use Rattle.std.proofs.lemmas.Bool.{true≢false}
use Rattle.kv_keys.specs.declared.error.KvError.{KvError}
use Rattle.kv_keys.specs.declared.error.KvError.TheVariants.{ValueTooLarge, Sealed, JournalFull}
use Rattle.kv_model.specs.Acceptance.{accept, objection, next_write, unless, is_full, IsAccepted}
use Rattle.kv_model.specs.Acts.{Act, Wrote, Seal, Compact, Write, writes_of, is_sealed, is_put}
use Rattle.kv_model.specs.Configuration.{Configuration}
use Rattle.kv_model.specs.Requests.{Asked, put, create, update, delete, purge, op_of, value_of, write_for}
use Rattle.kv_model.proofs.Numbered.{accepted_is_next}
use Rattle.kv_journal.specs.Records.{Content, did, did_all, closed, act_records, record_of, IsRecordable, IsRecordableAct}
use Rattle.kv_journal.specs.Entries.{IsLawfulContent}
use Rattle.kv_journal.specs.Says.{IsPlain}

abbrev three : (a b c : Bool) (e f g : KvError) (u : Result Write KvError) → Result Write KvError
three a b c e f g u = cond a (Err e) (cond b (Err f) (cond c (Err g) u))

passed : (a b c : Bool) (e f g : KvError) (u v : Result Write KvError) (w : Write) → three a b c e f g u ≡ Ok w → three a b c e f g v ≡ v
passed true b c e f g u v w h = absurd cc
passed false true c e f g u v w h = absurd cc
passed false false true e f g u v w h = absurd cc
passed false false false e f g u v w h = refl

no_objection : (a : Asked) (acts : List Act) → IsPlain a → objection a acts ≡ None
no_objection (put key value) acts plain = refl
no_objection (create key value) acts plain = absurd plain
no_objection (update key value last) acts plain = absurd plain
no_objection (delete key last) acts plain = ap (λ (l : Option ℕ). objection (delete key l) acts) plain
no_objection (purge key last) acts plain = ap (λ (l : Option ℕ). objection (purge key l) acts) plain

pub plain_is_accepted : (config : Configuration) (a b : Asked) (acts : List Act) (w : Write) (e : KvError) → IsPlain a → value_of a ≡ value_of b → accept config b acts ≡ Ok w → accept config a acts ≡ Err e → ⊥
plain_is_accepted config a b acts w e plain same ok err =
    let t = nat_lt config.value_limit (length (value_of b)) in
    let u = unless (objection b acts) (next_write b acts) in
    let v = unless (objection a acts) (next_write a acts) in
    let through : three t (is_sealed acts) (is_full config acts) ValueTooLarge Sealed JournalFull v ≡ v = passed t (is_sealed acts) (is_full config acts) ValueTooLarge Sealed JournalFull u v w ok in
    let here : accept config a acts ≡ v = subst (λ (z : List ℕ). three (nat_lt config.value_limit (length z)) (is_sealed acts) (is_full config acts) ValueTooLarge Sealed JournalFull v ≡ v) (sym same) through in
    let made : v ≡ Ok (next_write a acts) = ap (λ (o : Option KvError). unless o (next_write a acts)) (no_objection a acts plain) in
    no_both (next_write a acts) e (sym made ∙ sym here ∙ err)
  where
    no_both : (x : Write) (e : KvError) → ◌≡◌ {A = Result Write KvError} (Ok x) (Err e) → ⊥
    no_both x e h = absurd cc

marker_has_none : (a : Asked) → is_put (op_of a) ≡ false → value_of a ≡ []
marker_has_none (put key value) h = absurd (true≢false h)
marker_has_none (create key value) h = absurd (true≢false h)
marker_has_none (update key value last) h = absurd (true≢false h)
marker_has_none (delete key last) h = refl
marker_has_none (purge key last) h = refl

pub accepted_is_recordable : (config : Configuration) (acts : List Act) (act : Act) → IsAccepted config acts act → IsRecordableAct act
accepted_is_recordable config acts (Wrote w) h =
    let next = accepted_is_next config h.0 acts w h.1.1 in
    subst (λ (v : Write). IsRecordableAct (Wrote v)) next (h.1.0, marker_has_none h.0)
accepted_is_recordable config acts Seal h = tt
accepted_is_recordable config acts (Compact floor) h = tt

pub lawful_is_recordable : (config : Configuration) (acts : List Act) (bytes : List ℕ) (content : Content) → ((rest : List ℕ) → bytes ≡ 10 ∷ rest → ⊥) → record_of content ≡ bytes → IsLawfulContent config acts content → IsRecordable content
lawful_is_recordable config acts bytes (did act) single e h = accepted_is_recordable config acts act h
lawful_is_recordable config acts bytes (did_all all) single e h = single (act_records all) (sym e)
lawful_is_recordable config acts bytes (closed last) single e h = tt

-- the write that is accepted is the one that is asked for, at the next revision
pub next_is : (config : Configuration) (a : Asked) (acts : List Act) (w : Write) (last : ℕ) → last ≡ length (writes_of acts) → accept config a acts ≡ Ok w → w ≡ write_for a (last + 1)
next_is config a acts w last count ok = sym (accepted_is_next config a acts w ok) ∙ ap (λ (n : ℕ). write_for a (n + 1)) (sym count)
