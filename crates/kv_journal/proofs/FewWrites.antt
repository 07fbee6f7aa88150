-- Lawful writes are fewer than 2^32.
use Rattle.std.proofs.Common.{◌≡◌, ◌^◌, ◌<◌, ◌≤◌, Bool, true, false, cond, List, [], ◌∷◌, ◌++◌, length, Err, Ok, refl, ap, arith, length-append}
use Rattle.std.specs.Prelude.{nat_lt, nat_le, ◌&&◌, Result}
use Rattle.std.proofs.lemmas.Bool.{or_parts, and_parts, leb-true, leb-false}
use Rattle.kv_keys.specs.declared.error.KvError.TheVariants.{ValueTooLarge, Sealed, JournalFull}
use Rattle.kv_model.specs.Acceptance.{accept, objection, next_write, unless, is_full, IsAccepted, IsLawful}
use Rattle.kv_model.specs.Acts.{Act, Wrote, Seal, Compact, Write, writes_of, is_sealed}
use Rattle.kv_model.specs.Compaction.{stored_writes}
use Rattle.kv_model.specs.Configuration.{Configuration, IsLegal}
use Rattle.kv_model.specs.Requests.{Asked, value_of}
use Rattle.kv_model.proofs.Numbered.{writes_of-wrote, writes_of-seal, writes_of-compact}
use Rattle.kv_model.proofs.Storing.{lawful_by}

pub not_so : {X E : Type 0} (b : Bool) (e : E) (r : Result X E) (x : X) → cond b (Err e) r ≡ Ok x → (b ≡ false) × (r ≡ Ok x)
not_so true e r x h = absurd cc
not_so false e r x h = (refl, h)

pub not_full : (config : Configuration) (a : Asked) (acts : List Act) (w : Write) → accept config a acts ≡ Ok w → is_full config acts ≡ false
not_full config a acts w h =
    let w₃ = unless (objection a acts) (next_write a acts) in
    let w₂ = cond (is_full config acts) (Err JournalFull) w₃ in
    let w₁ = cond (is_sealed acts) (Err Sealed) w₂ in
    (not_so (is_full config acts) JournalFull w₃ w (not_so (is_sealed acts) Sealed w₂ w (not_so (nat_lt config.value_limit (length (value_of a))) ValueTooLarge w₁ w h).1).1).0

pub below_limit : (config : Configuration) (acts : List Act) → IsLawful config acts → length (writes_of acts) ≤ config.revision_limit
below_limit config acts lawful = lawful_by (λ (xs : List Act). length (writes_of xs) ≤ config.revision_limit) config (omega arith) step acts lawful
  where
    step : (before : List Act) (act : Act) → length (writes_of before) ≤ config.revision_limit → IsAccepted config before act → length (writes_of (before ++ act ∷ [])) ≤ config.revision_limit
    step before (Wrote w) few h =
        let parts = or_parts (nat_le config.write_limit (length (stored_writes config.history before))) (nat_le config.revision_limit (length (writes_of before))) (not_full config h.0 before w h.1.1) in
        omega (arith, leb-false config.revision_limit (length (writes_of before)) parts.1, ap length (writes_of-wrote before w), length-append (writes_of before) (w ∷ []))
    step before Seal few h = omega (arith, few, ap length (writes_of-seal before))
    step before (Compact floor) few h = omega (arith, few, ap length (writes_of-compact before floor))

pub legal_limit : (config : Configuration) → IsLegal config → config.revision_limit < 2 ^ 32
legal_limit config l =
    let history = nat_le 1 config.history && nat_le config.history 64 in
    let value = nat_le config.value_limit 1048576 in
    let writes = nat_le 1 config.write_limit && nat_le config.write_limit 1000000 in
    let revision = nat_le 1 config.revision_limit && nat_le config.revision_limit 4294967295 in
    let four = and_parts (history && value && writes) revision l.1 in
    let both = and_parts (nat_le 1 config.revision_limit) (nat_le config.revision_limit 4294967295) four.1 in
    omega (arith, leb-true config.revision_limit 4294967295 both.1)

pub few_writes : (config : Configuration) (acts : List Act) → IsLegal config → IsLawful config acts → length (writes_of acts) < 2 ^ 64
few_writes config acts legal lawful = omega (arith, below_limit config acts lawful, legal_limit config legal)
