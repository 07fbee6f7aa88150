-- What is stored is stored anew by the script of it.
use Rattle.std.proofs.Common.{◌≡◌, ℕ, ◌+◌, ◌<◌, ◌≤◌, ◌==◌, Bool, true, false, cond, ◌&&◌, ◌||◌, not, List, [], ◌∷◌, ◌++◌, length, map, filter, Option, None, unwrap_or, Ok, Err, codes, refl, sym, ap, subst, ◌∙◌, arith, append-nil, append_assoc, length-append}
use Rattle.std.specs.Prelude.{nat_le, nat_lt}
use Rattle.std.specs.List.{AllByRecursion, filter_map, last_or, list_any}
use Rattle.std.proofs.lemmas.Bool.{le-ltb, leb-false, lt-leb}
use Rattle.std.proofs.lemmas.List.{map-append}
use Rattle.std.proofs.lemmas.List.Elements.{filter_agree}
use Rattle.base64.specs.GeneralPurpose.{IsBytes}
use Rattle.kv_keys.specs.Grammar.{is_key}
use Rattle.kv_keys.specs.declared.error.KvError.{KvError}
use Rattle.kv_keys.specs.declared.error.KvError.TheVariants.{JournalFull, Sealed, ValueTooLarge}
use Rattle.kv_model.specs.Acceptance.{IsAccepted, IsLawful, LawfulFrom, accept, is_full, next_write, objection, unless}
use Rattle.kv_model.specs.Acts.{Act, Wrote, Seal, Compact, Write, floor_in, is_put, is_seal, is_sealed, writes_of}
use Rattle.kv_model.specs.Compaction.{is_stored, stored_writes}
use Rattle.kv_model.specs.Configuration.{Configuration, IsLegal}
use Rattle.kv_model.specs.Requests.{Asked, delete, purge, put, value_of, write_for}
use Rattle.kv_model.specs.Retained.{is_kept, kept, retained, revisions}
use Rattle.kv_model.specs.declared.write.Op.{Op}
use Rattle.kv_model.specs.declared.write.Op.TheVariants.{Put, Delete, Purge}
use Rattle.kv_model.specs.further.OneByOne.{removes}
use Rattle.kv_model.proofs.Members.{filter-filter}
use Rattle.kv_model.proofs.Numbered.{accepted_is_next, counts_from_lawful, increasing_counted, writes_of-append}
use Rattle.kv_model.proofs.Storing.{all_stored, kept_is_stored, lawful_by, stored-push}
use Rattle.kv_store.proofs.Standings.{history_some, lawful-push}
use Rattle.kv_journal.proofs.Accepting.{accepted_is_recordable}
use Rattle.kv_journal.proofs.FewWrites.{below_limit}
use Rattle.kv_journal.proofs.Restoring.{kept_of_stored}
use Rattle.kv_script.specs.declared.form.Form.TheVariants.{Base64}
use Rattle.kv_replay.specs.Sessions.{fresh, state_behind}
use Rattle.kv_durable_script.specs.Dumps.{IsOfBytes, act_line}
use Rattle.kv_durable_script.specs.Stored.{AreSameButRevisions, at_revision, renumbered, stored_anew, stored_line, storing_lines, stored_text}
use Rattle.kv_durable_script.proofs.Lawful.{passes}
use Rattle.kv_durable_script.proofs.Leading.{Leads, acts_lead, commands_lead}
use Rattle.kv_durable_script.proofs.Renumbered.{all_kept_moved, but_revisions, is_kept_among, kept_among, kept_mapped, moved, number_of, numbered_apart, renumbered_is}

abbrev wrote : List Write → List Act
wrote ws = map (λ (w : Write). Wrote w) ws

abbrev seals : Bool → List Act
seals b = cond b (Seal ∷ []) []

-- ---- acts that only write, and may seal

writes_of-wrote : (ws : List Write) → writes_of (wrote ws) ≡ ws
writes_of-wrote [] = refl
writes_of-wrote (w ∷ ws) = ap (λ (vs : List Write). w ∷ vs) (writes_of-wrote ws)

writes_of-seals : (b : Bool) → writes_of (seals b) ≡ []
writes_of-seals true = refl
writes_of-seals false = refl

writes_of-both : (ws : List Write) (b : Bool) → writes_of (wrote ws ++ seals b) ≡ ws
writes_of-both ws b = writes_of-append (wrote ws) (seals b) ∙ ap (λ (vs : List Write). vs ++ writes_of (seals b)) (writes_of-wrote ws) ∙ ap (λ (vs : List Write). ws ++ vs) (writes_of-seals b) ∙ append-nil ws

no_floor : (ws : List Write) (b : Bool) → filter_map floor_in (wrote ws ++ seals b) ≡ []
no_floor [] true = refl
no_floor [] false = refl
no_floor (w ∷ ws) b = no_floor ws b

any_seal : (ws : List Write) (b : Bool) → list_any is_seal (wrote ws ++ seals b) ≡ b
any_seal [] true = refl
any_seal [] false = refl
any_seal (w ∷ ws) b = any_seal ws b

unsealed : (ws : List Write) → is_sealed (wrote ws) ≡ false
unsealed [] = refl
unsealed (w ∷ ws) = unsealed ws

-- ---- how many are stored

filter_short : (p : Write → Bool) (ws : List Write) → length (filter p ws) ≤ length ws
filter_short p [] = omega arith
filter_short p (w ∷ ws) = by (p w) (filter_short p ws)
  where
    by : (b : Bool) → length (filter p ws) ≤ length ws → length (cond b (w ∷ filter p ws) (filter p ws)) ≤ length (w ∷ ws)
    by true h = omega (arith, h)
    by false h = omega (arith, h)

first_false : (a b : Bool) → a || b ≡ false → a ≡ false
first_false true b h = absurd (let no : ⊥ = cc in no)
first_false false b h = refl

-- lawful acts store no more than the limit
record IsFew (config : Configuration) (acts : List Act) : Type 0 where
  lawful : IsLawful config acts
  few : length (stored_writes config.history acts) ≤ config.write_limit

few_more : (config : Configuration) (before : List Act) (act : Act) → IsFew config before → IsAccepted config before act → IsFew config (before ++ act ∷ [])
few_more config before (Wrote w) f accepted =
    let asked : Asked = accepted.0 in
    let w₃ = unless (objection asked before) (next_write asked before) in
    let w₂ = cond (is_full config before) (Err JournalFull) w₃ in
    let w₁ = cond (is_sealed before) (Err Sealed) w₂ in
    let one = passes (nat_lt config.value_limit (length (value_of asked))) ValueTooLarge w₁ w accepted.1.1 in
    let two = passes (is_sealed before) Sealed w₂ w one.1 in
    let stored = stored_writes config.history before in
    let room = first_false (nat_le config.write_limit (length stored)) (nat_le config.revision_limit (length (writes_of before))) (passes (is_full config before) JournalFull w₃ w two.1).0 in
    record {
      lawful = lawful-push config before (Wrote w) f.lawful accepted;
      few = omega (arith, leb-false config.write_limit (length stored) room, ap length (stored-push config config.history before (Wrote w) f.lawful accepted), length-append stored (w ∷ []));
    }
few_more config before Seal f accepted = record {
  lawful = lawful-push config before Seal f.lawful accepted;
  few = omega (arith, f.few, ap length (stored-push config config.history before Seal f.lawful accepted));
}
few_more config before (Compact floor) f accepted =
    let h = config.history in
    record {
      lawful = lawful-push config before (Compact floor) f.lawful accepted;
      few = omega (arith, f.few, ap length (stored-push config h before (Compact floor) f.lawful accepted), filter_short (λ w. not (removes floor h before w)) (stored_writes h before));
    }

few_stored : (config : Configuration) (acts : List Act) → IsLawful config acts → length (stored_writes config.history acts) ≤ config.write_limit
few_stored config acts lawful =
    (lawful_by (IsFew config) config (record { lawful = tt; few = omega arith }) (few_more config) acts lawful).few

-- ---- what was accepted can be stored anew

record CanStore (config : Configuration) (w : Write) : Type 0 where
  is : is_key w.key ≡ true
  fits : nat_lt config.value_limit (length w.value) ≡ false
  plain : is_put w.op ≡ false → w.value ≡ []

each_can_store : (config : Configuration) (before acts : List Act) → LawfulFrom config before acts → AllByRecursion (CanStore config) (writes_of acts)
each_can_store config before [] h = tt
each_can_store config before (Wrote w ∷ acts) h =
    let asked : Asked = h.0.0 in
    let w₃ = unless (objection asked before) (next_write asked before) in
    let w₂ = cond (is_full config before) (Err JournalFull) w₃ in
    let w₁ = cond (is_sealed before) (Err Sealed) w₂ in
    let next = accepted_is_next config asked before w h.0.1.1 in
    let told = accepted_is_recordable config before (Wrote w) h.0 in (
      record {
        is = told.0;
        fits = subst (λ (v : Write). nat_lt config.value_limit (length v.value) ≡ false) next (passes (nat_lt config.value_limit (length (value_of asked))) ValueTooLarge w₁ w h.0.1.1).0;
        plain = told.1;
      },
      each_can_store config (before ++ Wrote w ∷ []) acts h.1,
    )
each_can_store config before (Seal ∷ acts) h = each_can_store config (before ++ Seal ∷ []) acts h.1
each_can_store config before (Compact floor ∷ acts) h = each_can_store config (before ++ Compact floor ∷ []) acts h.1

some_of : (P : Write → Type 0) (p : Write → Bool) (ws : List Write) → AllByRecursion P ws → AllByRecursion P (filter p ws)
some_of P p [] h = tt
some_of P p (w ∷ ws) h = by (p w) (some_of P p ws h.1)
  where
    by : (b : Bool) → AllByRecursion P (filter p ws) → AllByRecursion P (cond b (w ∷ filter p ws) (filter p ws))
    by true more = (h.0, more)
    by false more = more

module _ (config : Configuration) (xs : List Write) (room : length xs < config.write_limit) (left : length xs < config.revision_limit) where
  not_full : is_full config (wrote xs) ≡ false
  not_full =
      let stored = filter_short (is_stored config.history (wrote xs)) (writes_of (wrote xs)) in
      let all = ap length (writes_of-wrote xs) in
      let first : nat_le config.write_limit (length (stored_writes config.history (wrote xs))) ≡ false =
      lt-leb config.write_limit (length (stored_writes config.history (wrote xs))) (omega (arith, stored, all, room)) in
      let second : nat_le config.revision_limit (length (writes_of (wrote xs))) ≡ false = lt-leb config.revision_limit (length (writes_of (wrote xs))) (omega (arith, all, left)) in
      ap (λ (b : Bool). b || nat_le config.revision_limit (length (writes_of (wrote xs)))) first ∙ second

  accepts : (asked : Asked) → nat_lt config.value_limit (length (value_of asked)) ≡ false → objection asked (wrote xs) ≡ None → accept config asked (wrote xs) ≡ Ok (next_write asked (wrote xs))
  accepts asked fits none =
      let next = next_write asked (wrote xs) in
      ap (λ (b : Bool). cond b (Err ValueTooLarge) (cond (is_sealed (wrote xs)) (Err Sealed) (cond (is_full config (wrote xs)) (Err JournalFull) (unless (objection asked (wrote xs)) next)))) fits
      ∙ ap (λ (b : Bool). cond b (Err Sealed) (cond (is_full config (wrote xs)) (Err JournalFull) (unless (objection asked (wrote xs)) next))) (unsealed xs)
      ∙ ap (λ (b : Bool). cond b (Err JournalFull) (unless (objection asked (wrote xs)) next)) not_full
      ∙ ap (λ (o : Option KvError). unless o next) none

  next_is : (asked : Asked) → next_write asked (wrote xs) ≡ write_for asked (length xs + 1)
  next_is asked = ap (λ (n : ℕ). write_for asked (n + 1)) (ap length (writes_of-wrote xs))

  accepted_anew : (w : Write) → CanStore config w → IsAccepted config (wrote xs) (Wrote (at_revision (length xs + 1) w))
  accepted_anew w can = by w.op refl
    where
      revision : ℕ
      revision = length xs + 1

      none : (op : Op) → w.op ≡ op → is_put op ≡ false → w.value ≡ []
      none op e is_marker = can.plain (ap is_put e ∙ is_marker)

      marker : (op : Op) (e : w.op ≡ op) → is_put op ≡ false → record { key = w.key; op = op; value = []; revision = revision } ≡ at_revision revision w
      marker op e is_marker =
          ap (λ (v : List ℕ). record { key = w.key; op = op; value = v; revision = revision }) (sym (none op e is_marker))
          ∙ ap (λ (o : Op). record { key = w.key; op = o; value = w.value; revision = revision }) (sym e)

      empty_fits : nat_lt config.value_limit 0 ≡ false
      empty_fits = le-ltb config.value_limit 0 (omega arith)

      by : (op : Op) → w.op ≡ op → IsAccepted config (wrote xs) (Wrote (at_revision revision w))
      by Put e = (
        put w.key w.value,
        (
          can.is,
          accepts (put w.key w.value) can.fits refl
              ∙ ap (λ (v : Write). Ok v) (next_is (put w.key w.value) ∙ ap (λ (o : Op). record { key = w.key; op = o; value = w.value; revision = revision }) (sym e)),
        ),
      )
      by Delete e = (
        delete w.key None,
        (can.is, accepts (delete w.key None) empty_fits refl ∙ ap (λ (v : Write). Ok v) (next_is (delete w.key None) ∙ marker Delete e refl)),
      )
      by Purge e = (
        purge w.key None,
        (can.is, accepts (purge w.key None) empty_fits refl ∙ ap (λ (v : Write). Ok v) (next_is (purge w.key None) ∙ marker Purge e refl)),
      )

lawful_anew : (config : Configuration) (xs ws : List Write) → AllByRecursion (CanStore config) ws → length xs + length ws ≤ config.write_limit → length xs + length ws ≤ config.revision_limit
    → LawfulFrom config (wrote xs) (wrote (renumbered (length xs) ws))
lawful_anew config xs [] can room left = tt
lawful_anew config xs (w ∷ ws) can room left =
    let v = at_revision (length xs + 1) w in
    let longer : length (xs ++ v ∷ []) ≡ length xs + 1 = length-append xs (v ∷ []) in
    let more = lawful_anew config (xs ++ v ∷ []) ws can.1 (omega (arith, room, longer)) (omega (arith, left, longer)) in (
      accepted_anew config xs (omega (arith, room)) (omega (arith, left)) w can.0,
      subst (λ (before : List Act). LawfulFrom config before (wrote (renumbered (length xs + 1) ws))) (map-append (λ (u : Write). Wrote u) xs (v ∷ []))
          (subst (λ (n : ℕ). LawfulFrom config (wrote (xs ++ v ∷ [])) (wrote (renumbered n ws))) longer more),
    )

lawful_both : (config : Configuration) (before xs ys : List Act) → LawfulFrom config before xs → LawfulFrom config (before ++ xs) ys → LawfulFrom config before (xs ++ ys)
lawful_both config before [] ys h more = subst (λ (acts : List Act). LawfulFrom config acts ys) (append-nil before) more
lawful_both config before (x ∷ xs) ys h more = (h.0, lawful_both config (before ++ x ∷ []) xs ys h.1 (subst (λ (acts : List Act). LawfulFrom config acts ys) (sym (append_assoc before (x ∷ []) xs)) more))

lawful_seals : (config : Configuration) (before : List Act) (b : Bool) → LawfulFrom config before (seals b)
lawful_seals config before true = (tt, tt)
lawful_seals config before false = tt

-- ---- lines

lines_anew : (last : ℕ) (ws : List Write) → map act_line (wrote (renumbered last ws)) ≡ map stored_line ws
lines_anew last [] = refl
lines_anew last (w ∷ ws) = ap (λ (lines : List (List ℕ)). stored_line w ∷ lines) (lines_anew (last + 1) ws)

seal_lines : (b : Bool) → map act_line (seals b) ≡ cond b (codes "seal" ∷ []) []
seal_lines true = refl
seal_lines false = refl

bytes_of : (acts : List Act) → AllByRecursion IsOfBytes acts → AllByRecursion (λ (w : Write). IsBytes w.value) (writes_of acts)
bytes_of [] h = tt
bytes_of (Wrote w ∷ acts) h = (h.0, bytes_of acts h.1)
bytes_of (Seal ∷ acts) h = bytes_of acts h.1
bytes_of (Compact floor ∷ acts) h = bytes_of acts h.1

bytes_anew : (last : ℕ) (ws : List Write) (b : Bool) → AllByRecursion (λ (w : Write). IsBytes w.value) ws → AllByRecursion IsOfBytes (wrote (renumbered last ws) ++ seals b)
bytes_anew last [] true h = (tt, tt)
bytes_anew last [] false h = tt
bytes_anew last (w ∷ ws) b h = (h.0, bytes_anew (last + 1) ws b h.1)

-- ---- what is kept, by what is stored

module _ (config : Configuration) (h : ℕ) (acts : List Act) (lawful : IsLawful config acts) (some : 0 < h) where
  kept_is : (key : List ℕ) → kept h key acts ≡ kept_among h key (stored_writes h acts)
  kept_is key = kept_of_stored config h key acts lawful some

  stored_too : (w : Write) (b : Bool) → is_kept h acts w ≡ b → (is_stored h acts w && is_kept h acts w) ≡ is_kept h acts w
  stored_too w true e = ap (λ (b : Bool). b && is_kept h acts w) (kept_is_stored config h acts w lawful e)
  stored_too w false e = ap (λ (b : Bool). is_stored h acts w && b) e ∙ and_no (is_stored h acts w) ∙ sym e
    where
      and_no : (b : Bool) → (b && false) ≡ false
      and_no true = refl
      and_no false = refl

  retained_is : retained h acts ≡ filter (is_kept_among h (stored_writes h acts)) (stored_writes h acts)
  retained_is =
      let ws = stored_writes h acts in
      sym (filter-filter (is_kept h acts) (is_stored h acts) (writes_of acts) ∙ filter_agree (λ w. is_stored h acts w && is_kept h acts w) (is_kept h acts) (λ w. stored_too w (is_kept h acts w) refl) (writes_of acts))
      ∙ filter_agree (is_kept h acts) (is_kept_among h ws) (λ w. ap (λ (vs : List Write). list_any (λ r. r == w.revision) (revisions vs)) (kept_is w.key)) ws

pub sealed_anew : (config : Configuration) (acts : List Act) → is_sealed (stored_anew config.history acts) ≡ is_sealed acts
sealed_anew config acts = any_seal (renumbered 0 (stored_writes config.history acts)) (is_sealed acts)

module _ (config : Configuration) (acts : List Act) (legal : IsLegal config) (lawful : IsLawful config acts) where
  pub anew_is_lawful : IsLawful config (stored_anew config.history acts)
  anew_is_lawful =
      let stored = stored_writes config.history acts in
      let within = below_limit config acts lawful in
      let short = filter_short (is_stored config.history acts) (writes_of acts) in
      let can = some_of (CanStore config) (is_stored config.history acts) (writes_of acts) (each_can_store config [] acts lawful) in
      lawful_both config [] (wrote (renumbered 0 stored)) (seals (is_sealed acts))
      (lawful_anew config [] stored can (omega (arith, few_stored config acts lawful)) (omega (arith, within, short)))
      (lawful_seals config (wrote (renumbered 0 stored)) (is_sealed acts))

  -- the script leads there
  pub stored_leads : AllByRecursion IsOfBytes acts → (state_behind Base64 (fresh config) (stored_text config.history acts)).acts ≡ stored_anew config.history acts
  stored_leads bytes =
      let stored = stored_writes config.history acts in
      let more = stored_anew config.history acts in
      let of_bytes = bytes_anew 0 stored (is_sealed acts) (some_of (λ (w : Write). IsBytes w.value) (is_stored config.history acts) (writes_of acts) (bytes_of acts bytes)) in
      let lines : map act_line more ≡ storing_lines stored (is_sealed acts) =
      map-append act_line (wrote (renumbered 0 stored)) (seals (is_sealed acts))
      ∙ ap (λ (xs : List (List ℕ)). xs ++ map act_line (seals (is_sealed acts))) (lines_anew 0 stored)
      ∙ ap (λ (xs : List (List ℕ)). map stored_line stored ++ xs) (seal_lines (is_sealed acts)) in
      commands_lead config more (storing_lines stored (is_sealed acts))
      (subst (Leads config [] more) lines (acts_lead config [] more legal anew_is_lawful (omega arith) of_bytes))

  -- what is stored there are the same writes
  stored_moved : stored_writes config.history (stored_anew config.history acts) ≡ map (moved (number_of 0 (stored_writes config.history acts))) (stored_writes config.history acts)
  stored_moved =
      let stored = stored_writes config.history acts in
      all_stored config config.history (stored_anew config.history acts) anew_is_lawful (ap (λ (fs : List ℕ). unwrap_or (last_or None fs) 0) (no_floor (renumbered 0 stored) (is_sealed acts)))
      ∙ writes_of-both (renumbered 0 stored) (is_sealed acts)
      ∙ renumbered_is 0 stored (increasing_counted (is_stored config.history acts) (writes_of acts) (counts_from_lawful config acts lawful))

  pub kept_anew : (key : List ℕ) → AreSameButRevisions (kept config.history key (stored_anew config.history acts)) (kept config.history key acts)
  kept_anew key =
      let h = config.history in
      let stored = stored_writes h acts in
      let to = number_of 0 stored in
      let some = history_some config legal in
      ap (map (at_revision 0)) (kept_is config h (stored_anew h acts) anew_is_lawful some key ∙ ap (kept_among h key) stored_moved ∙ sym (kept_mapped (moved to) (λ v. refl) (λ v. refl) h key stored))
      ∙ but_revisions to (kept_among h key stored) ∙ ap (map (at_revision 0)) (sym (kept_is config h acts lawful some key))

  pub retained_anew : AreSameButRevisions (retained config.history (stored_anew config.history acts)) (retained config.history acts)
  retained_anew =
      let h = config.history in
      let stored = stored_writes h acts in
      let to = number_of 0 stored in
      let some = history_some config legal in
      ap (map (at_revision 0))
      (retained_is config h (stored_anew h acts) anew_is_lawful some ∙ ap (λ (vs : List Write). filter (is_kept_among h vs) vs) stored_moved ∙ all_kept_moved to stored (numbered_apart stored) h)
      ∙ but_revisions to (filter (is_kept_among h stored) stored) ∙ ap (map (at_revision 0)) (sym (retained_is config h acts lawful some))
