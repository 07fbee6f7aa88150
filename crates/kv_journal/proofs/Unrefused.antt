-- A checkpoint of lawful acts is not refused.
use Rattle.std.proofs.Common.{◌≡◌, ◌⊎◌, ℕ, ◌+◌, ◌^◌, ◌<◌, ◌≤◌, Bool, true, false, cond, filter, List, [], ◌∷◌, ◌++◌, length, map, get_or, drop, refl, sym, ap, ◌∙◌, subst, inl, inr, arith, append_assoc, append-nil, ⊎_elim}
use Rattle.std.specs.Int.{w32, to_be_bytes}
use Rattle.std.specs.List.{Contains}
use Rattle.std.proofs.lemmas.List.{map-append}
use Rattle.std.proofs.lemmas.List.Elements.{Contains-append_right, Contains-push_cases}
use Rattle.kv_frames.specs.Frames.{ArePayloads, BeginsWhole, IsPayload, frame, frames}
use Rattle.kv_frames.proofs.Fronts.{same_number, sides}
use Rattle.kv_frames.proofs.Reading.{behind}
use Rattle.kv_model.specs.Acceptance.{IsAccepted, IsLawful}
use Rattle.kv_model.specs.Acts.{Act, Wrote, Seal, Compact, Write, writes_of}
use Rattle.kv_model.specs.Compaction.{is_stored, stored_writes}
use Rattle.kv_model.specs.Configuration.{Configuration, IsLegal}
use Rattle.kv_model.specs.Retained.{is_kept, retained, revisions}
use Rattle.kv_model.proofs.Members.{Contains-from_filter, Contains-here, Contains-map, Contains-none}
use Rattle.kv_model.proofs.Numbered.{counts_from_lawful, rises_counted, writes_of-compact, writes_of-seal, writes_of-wrote}
use Rattle.kv_model.proofs.Rising.{Rises, Rises-members}
use Rattle.kv_model.proofs.Storing.{lawful_by}
use Rattle.kv_journal.specs.Checkpoints.{checkpoint_of, checkpoint_payloads, numbers_payload, stored_payload}
use Rattle.kv_journal.specs.Records.{IsRecordableAct, write_record}
use Rattle.kv_journal.proofs.Accepting.{accepted_is_recordable}
use Rattle.kv_journal.proofs.FewWrites.{below_limit, legal_limit}
use Rattle.kv_journal.proofs.Saying.{same_fields, same_write}

-- the fifth byte of a payload is its record's kind
abbrev pub kind : List ℕ → ℕ
kind p = get_or p 4 0

-- a stored write is told by its payload
pub same_stored : (v w : Write) → v.revision < 2 ^ 32 → w.revision < 2 ^ 32 → stored_payload v ≡ stored_payload w → v ≡ w
same_stored v w hv hw e =
    let both = sides (to_be_bytes w32 v.revision) (write_record v.op v.key v.value) (to_be_bytes w32 w.revision) (write_record w.op w.key w.value) refl (ap (λ (p : List ℕ). drop 5 p) e) in
    let parts = same_write v.op w.op v.key w.key v.value w.value both.1 in
    same_fields v w parts.1 parts.0 parts.2 (same_number v.revision w.revision hv hw both.0)

at_payload : (ps qs : List (List ℕ)) (q : List ℕ) → ArePayloads (ps ++ q ∷ qs) → IsPayload q
at_payload [] qs q h = h.0
at_payload (p ∷ ps) qs q h = at_payload ps qs q h.1

abbrev pub told : List Write → List ℕ → List (List ℕ)
told ws n = map stored_payload ws ++ n ∷ []

told_parts : (ws : List Write) (m : Write) (ms : List Write) (n : List ℕ) → told (ws ++ m ∷ ms) n ≡ map stored_payload ws ++ stored_payload m ∷ told ms n
told_parts ws m ms n =
    ap (λ (ps : List (List ℕ)). ps ++ n ∷ []) (map-append stored_payload ws (m ∷ ms))
    ∙ append_assoc (map stored_payload ws) (map stored_payload (m ∷ ms)) (n ∷ [])

-- a checkpoint whose frames the bytes begin with
pub record Begins (seed at : ℕ) (bytes : List ℕ) (ds : List Write) (n r : List ℕ) : Type 0 where
  pub small : (d : Write) → Contains ds d → d.revision < 2 ^ 32
  pub numbers : get_or n 4 0 ≡ 8
  pub each : ArePayloads (map stored_payload ds ++ n ∷ [])
  pub whole : bytes ≡ frames seed at (map stored_payload ds ++ n ∷ []) ++ r

-- what it has behind the writes that are put back so far
pub record Remains (seed : ℕ) (ds : List Write) (n r : List ℕ) (ws : List Write) (offset : ℕ) (rest : List ℕ) : Type 0 where
  pub more : List Write
  pub all : ds ≡ ws ++ more
  pub behind : rest ≡ frames seed offset (map stored_payload more ++ n ∷ []) ++ r

-- each such checkpoint begins with these writes
abbrev pub AreFirst : (seed at : ℕ) → List ℕ → List Write → (offset : ℕ) → List ℕ → Type 0
AreFirst seed at bytes ws offset rest = (ds : List Write) (n r : List ℕ) → Begins seed at bytes ds n r → Remains seed ds n r ws offset rest

pub none_first : (seed at : ℕ) (bytes : List ℕ) → AreFirst seed at bytes [] at bytes
none_first seed at bytes ds n r b = record { more = ds; all = refl; behind = b.whole }

module _ (seed at : ℕ) (bytes : List ℕ) (ws : List Write) (offset : ℕ) (rest p after : List ℕ) (are : AreFirst seed at bytes ws offset rest) (fits : IsPayload p) (found : rest ≡ frame seed offset p ++ after) where
  -- the next payload is that of the next write, or that of the numbers
  pub next_is : (ds : List Write) (n r : List ℕ) → Begins seed at bytes ds n r →
      ((m : Write) × (ms : List Write) × (ds ≡ ws ++ m ∷ ms) × (p ≡ stored_payload m) × (after ≡ frames seed (offset + (8 + length p)) (told ms n) ++ r))
      ⊎ ((ds ≡ ws) × (p ≡ n))
  next_is ds n r b = by (are ds n r b)
    where
      by : Remains seed ds n r ws offset rest → ((m : Write) × (ms : List Write) × (ds ≡ ws ++ m ∷ ms) × (p ≡ stored_payload m) × (after ≡ frames seed (offset + (8 + length p)) (told ms n) ++ r)) ⊎ ((ds ≡ ws) × (p ≡ n))
      by rem = cases rem.more rem.all rem.behind
        where
          cases : (more : List Write) → ds ≡ ws ++ more → rest ≡ frames seed offset (map stored_payload more ++ n ∷ []) ++ r
              → ((m : Write) × (ms : List Write) × (ds ≡ ws ++ m ∷ ms) × (p ≡ stored_payload m) × (after ≡ frames seed (offset + (8 + length p)) (told ms n) ++ r)) ⊎ ((ds ≡ ws) × (p ≡ n))
          cases [] all there =
              let same : ds ≡ ws = all ∙ append-nil ws in
              let is_payload = at_payload (map stored_payload ds) [] n b.each in
              inr (same, (behind seed offset p n after r [] fits is_payload (sym found ∙ there)).0)
          cases (m ∷ ms) all there =
              let is_payload = at_payload (map stored_payload ws) (told ms n) (stored_payload m) (subst ArePayloads (ap (λ (es : List Write). told es n) all ∙ told_parts ws m ms n) b.each) in
              let both = behind seed offset p (stored_payload m) after r (told ms n) fits is_payload (sym found ∙ there) in
              inl (m, ms, all, both.0, both.1)

  pub one_first : (w : Write) → stored_payload w ≡ p → w.revision < 2 ^ 32 → AreFirst seed at bytes (ws ++ w ∷ []) (offset + (8 + length p)) after
  one_first w is small ds n r b =
      elim (next_is ds n r b) [
        | inl there ↦
            let m = there.0 in
            let ms = there.1 in
            let within = b.small m (subst (λ (es : List Write). Contains es m) (sym there.2) (Contains-append_right ws (m ∷ ms) m (Contains-here m ms))) in
            let same : m ≡ w = same_stored m w within small (sym there.3 ∙ sym is) in
            record {
              more = ms;
              all = there.2 ∙ ap (λ (x : Write). ws ++ x ∷ ms) same ∙ sym (append_assoc ws (w ∷ []) ms);
              behind = there.4;
            }
        | inr ends ↦
            let d : 7 ≡ 8 = ap kind (is ∙ ends.1) ∙ b.numbers in
            absurd (omega (arith, d))
      ]

  -- the next payload is that of no write
  pub none_next : ((w : Write) → IsRecordableAct (Wrote w) → w.revision < 2 ^ 32 → stored_payload w ≡ p → ⊥) → (ds : List Write) (n r : List ℕ) → Begins seed at bytes ds n r → ((d : Write) → Contains ds d → IsRecordableAct (Wrote d)) → (ds ≡ ws) × (p ≡ n)
  none_next none ds n r b recordable =
      elim (next_is ds n r b) [
        | inl there ↦
            let m = there.0 in
            let among = subst (λ (es : List Write). Contains es m) (sym there.2) (Contains-append_right ws (m ∷ there.1) m (Contains-here m there.1)) in
            absurd (none m (recordable m among) (b.small m among) (sym there.3))
        | inr ends ↦ ends
      ]

-- a whole frame stands there
pub some_next : (seed at : ℕ) (bytes : List ℕ) (ws : List Write) (offset : ℕ) (rest : List ℕ) → AreFirst seed at bytes ws offset rest → (ds : List Write) (n r : List ℕ) → Begins seed at bytes ds n r → BeginsWhole seed offset rest
some_next seed at bytes ws offset rest are ds n r b = by (are ds n r b)
  where
    by : Remains seed ds n r ws offset rest → BeginsWhole seed offset rest
    by rem = cases rem.more rem.all rem.behind
      where
        cases : (more : List Write) → ds ≡ ws ++ more → rest ≡ frames seed offset (map stored_payload more ++ n ∷ []) ++ r → BeginsWhole seed offset rest
        cases [] all there = (n, r, at_payload (map stored_payload ds) [] n b.each, there ∙ append_assoc (frame seed offset n) [] r)
        cases (m ∷ ms) all there =
            let is_payload = at_payload (map stored_payload ws) (told ms n) (stored_payload m) (subst ArePayloads (ap (λ (es : List Write). told es n) all ∙ told_parts ws m ms n) b.each) in
            (stored_payload m, frames seed (offset + (8 + length (stored_payload m))) (told ms n) ++ r, is_payload, there ∙ append_assoc (frame seed offset (stored_payload m)) (frames seed (offset + (8 + length (stored_payload m))) (told ms n)) r)

-- ---- what lawful acts leave stored

recordable : (config : Configuration) (acts : List Act) → IsLawful config acts → (w : Write) → Contains (writes_of acts) w → IsRecordableAct (Wrote w)
recordable config acts lawful = lawful_by (λ (xs : List Act). (w : Write) → Contains (writes_of xs) w → IsRecordableAct (Wrote w)) config (λ w m. absurd (Contains-none w m)) step acts lawful
  where
    step : (before : List Act) (act : Act) → ((w : Write) → Contains (writes_of before) w → IsRecordableAct (Wrote w)) → IsAccepted config before act → (w : Write) → Contains (writes_of (before ++ act ∷ [])) w → IsRecordableAct (Wrote w)
    step before (Wrote v) so_far accepted w m =
        ⊎_elim (λ n. so_far w n) (λ e. subst (λ (x : Write). IsRecordableAct (Wrote x)) e (accepted_is_recordable config before (Wrote v) accepted))
        (Contains-push_cases (writes_of before) v w (subst (λ (ws : List Write). Contains ws w) (writes_of-wrote before v) m))
    step before Seal so_far accepted w m = so_far w (subst (λ (ws : List Write). Contains ws w) (writes_of-seal before) m)
    step before (Compact floor) so_far accepted w m = so_far w (subst (λ (ws : List Write). Contains ws w) (writes_of-compact before floor) m)

fewer : (p : Write → Bool) (ws : List Write) → length (filter p ws) ≤ length ws
fewer p [] = omega arith
fewer p (w ∷ ws) = by (p w) (fewer p ws)
  where
    by : (b : Bool) → length (filter p ws) ≤ length ws → length (cond b (w ∷ filter p ws) (filter p ws)) ≤ length (w ∷ ws)
    by true h = omega (arith, h)
    by false h = omega (arith, h)

module _ (config : Configuration) (acts : List Act) (legal : IsLegal config) (lawful : IsLawful config acts) where
  pub all_recordable : (w : Write) → Contains (stored_writes config.history acts) w → IsRecordableAct (Wrote w)
  all_recordable w m = recordable config acts lawful w (Contains-from_filter (is_stored config.history acts) (writes_of acts) w m).0

  rise : Rises 1 (1 + length (writes_of acts)) (revisions (stored_writes config.history acts))
  rise = rises_counted (is_stored config.history acts) 1 (writes_of acts) (counts_from_lawful config acts lawful)

  bounds : (w : Write) → Contains (stored_writes config.history acts) w → (1 ≤ w.revision) × (w.revision < 1 + length (writes_of acts))
  bounds w m = Rises-members 1 (1 + length (writes_of acts)) (revisions (stored_writes config.history acts)) w.revision rise (Contains-map (λ (v : Write). v.revision) (stored_writes config.history acts) w m)

  pub begins : (seed at : ℕ) (bytes r : List ℕ) → ArePayloads (checkpoint_payloads (checkpoint_of config acts)) → bytes ≡ frames seed at (checkpoint_payloads (checkpoint_of config acts)) ++ r
      → Begins seed at bytes (stored_writes config.history acts) (numbers_payload (checkpoint_of config acts)) r
  begins seed at bytes r each whole = record {
    small = λ d m. omega (arith, (bounds d m).1, below_limit config acts lawful, legal_limit config legal);
    numbers = refl;
    each = each;
    whole = whole;
  }

  pub numbers_fit : (length (writes_of acts) < 2 ^ 64) × (length (retained config.history acts) < 2 ^ 64) × (length (writes_of acts) ≤ config.revision_limit) × (length (retained config.history acts) ≤ length (writes_of acts))
  numbers_fit =
      let few = fewer (is_kept config.history acts) (writes_of acts) in
      let below = below_limit config acts lawful in
      let limit = legal_limit config legal in
      (omega (arith, below, limit), omega (arith, few, below, limit), below, few)

-- ---- so its reading does not end before its end

pub not_cut_short : (config : Configuration) (seed at : ℕ) (bytes : List ℕ) (ws : List Write) (offset : ℕ) (rest : List ℕ) → AreFirst seed at bytes ws offset rest → IsLegal config → (BeginsWhole seed offset rest → ⊥)
    → (acts : List Act) (r : List ℕ) → IsLawful config acts → ArePayloads (checkpoint_payloads (checkpoint_of config acts)) → bytes ≡ frames seed at (checkpoint_payloads (checkpoint_of config acts)) ++ r → ⊥
not_cut_short config seed at bytes ws offset rest are legal none acts r lawful each whole =
    none (some_next seed at bytes ws offset rest are (stored_writes config.history acts) (numbers_payload (checkpoint_of config acts)) r (begins config acts legal lawful seed at bytes r each whole))
