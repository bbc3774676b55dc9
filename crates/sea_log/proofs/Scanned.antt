-- How far a scan has come, and what it finds at the end.
use Rattle.std.proofs.Common.{◌≡◌, ◌≢◌, ℕ, ◌+◌, ◌<◌, ◌≤◌, List, [], ◌∷◌, ◌++◌, length, drop, get_or, Some, sym, ap, ◌∙◌, subst, inl, inr, arith}
use Rattle.std.proofs.lemmas.List.{append_assoc, drop-drop}
use Rattle.sea_fields.specs.Fields.{led}
use Rattle.sea_disk.specs.declared.file.File.{File}
use Rattle.sea_disk.specs.Shown.{Shown}
use Rattle.sea_disk.specs.Calls.{Rests}
use Rattle.sea_disk.specs.Composition.{rests_then}
use Rattle.sea_log.specs.Reading.{StandAt, IsNoRecord, HasPayload}
use Rattle.sea_log.specs.Records.{records, HaveLengths, HoldsList}
use Rattle.sea_log.proofs.RecordsLaws.{records-push, length-records-push, HaveLengths-push}
use Rattle.sea_log.proofs.Uniqueness.{led_same}

-- The file begins with the records of these payloads, which end at this place.
pub record BeginsWith (content : List ℕ) (payloads : List (List ℕ)) (end : ℕ) : Type 0 where
  pub split : content ≡ records payloads ++ drop end content
  pub place : end ≡ length (records payloads)
  pub lengths : HaveLengths payloads

-- where a scan of a disk stands that tells its content
pub record IsScanned (old now : Shown) (file : File) (size : ℕ) (payloads : List (List ℕ)) (end : ℕ) (bytes : List ℕ) (from : ℕ) : Type 0 where
  pub begins : BeginsWith (old.seen file) payloads end
  pub piece : StandAt bytes from (old.seen file)
  pub size_is : size ≡ length (old.seen file)
  pub rests : Rests old now

-- where a scan of any disk stands
pub record IsScanning (told : Type 0) (old now : Shown) (file : File) (size : ℕ) (payloads : List (List ℕ)) (end : ℕ) (bytes : List ℕ) (from : ℕ) (faults_old faults failed_old failed : ℕ) : Type 0 where
  pub within : end < size
  pub long : 6 ≤ size
  pub scanned : told → IsScanned old now file size payloads end bytes from
  pub faults_are : faults ≡ faults_old
  pub failed_are : failed ≡ failed_old

-- one record more
pub begins_with_more : (content : List ℕ) (payloads : List (List ℕ)) (payload : List ℕ) (end : ℕ) → BeginsWith content payloads end → HasPayload (Some payload) (drop end content) → BeginsWith content (payloads ++ payload ∷ []) (end + (5 + length payload))
begins_with_more content payloads payload end begins has = record {
  split = begins.split
      ∙ ap (λ rest. records payloads ++ rest) (has.0 ∙ ap (λ rest. (1 ∷ led payload) ++ rest) (drop-drop (5 + length payload) end content))
      ∙ sym (append_assoc (records payloads) (1 ∷ led payload) (drop (end + (5 + length payload)) content))
      ∙ ap (λ front. front ++ drop (end + (5 + length payload)) content) (sym (records-push payloads payload));
  place = omega (arith, begins.place, length-records-push payloads payload);
  lengths = HaveLengths-push payloads payload begins.lengths has.1;
}

-- one turn of a scan more
pub scanned_more : {old mid new : Shown} {file : File} {size : ℕ} {payloads : List (List ℕ)} {end : ℕ} {bytes : List ℕ} {from : ℕ} (payload : List ℕ) (more : List ℕ) (place : ℕ) → IsScanned old mid file size payloads end bytes from → HasPayload (Some payload) (drop end (mid.seen file)) → StandAt more place (mid.seen file) → Rests mid new → IsScanned old new file size (payloads ++ payload ∷ []) (end + (5 + length payload)) more place
scanned_more {old = old} {file = file} {payloads = payloads} {end = end} payload more place scanned has stands rests =
    let moved = scanned.rests.seen file in
    record {
      begins = begins_with_more (old.seen file) payloads payload end scanned.begins (subst (λ content. HasPayload (Some payload) (drop end content)) moved has);
      piece = subst (λ content. StandAt more place content) moved stands;
      size_is = scanned.size_is;
      rests = rests_then scanned.rests rests;
    }

-- a rest that begins with no record is no list with the gate that ends it
none_in_rest : (payloads : List (List ℕ)) (rest tail : List ℕ) (gate : ℕ) → IsNoRecord rest → HaveLengths payloads → gate ≢ 1 → rest ≢ records payloads ++ gate ∷ tail
none_in_rest [] rest tail gate bad _ closed same = closed (sym (ap (λ all. get_or all 0 0) same) ∙ bad.opened)
none_in_rest (payload ∷ []) rest tail gate bad lengths closed same = bad.no_record payload gate tail lengths.0 (same ∙ append_assoc (1 ∷ led payload) [] (gate ∷ tail))
none_in_rest (payload ∷ (next ∷ payloads)) rest tail gate bad lengths closed same =
    bad.no_record payload 1 ((led next ++ records payloads) ++ gate ∷ tail) lengths.0 (same ∙ append_assoc (1 ∷ led payload) (records (next ∷ payloads)) (gate ∷ tail))

-- neither is it behind records
none_behind : (front payloads : List (List ℕ)) (rest tail : List ℕ) (gate : ℕ) → IsNoRecord rest → HaveLengths front → HaveLengths payloads → gate ≢ 1 → records front ++ rest ≢ records payloads ++ gate ∷ tail
none_behind [] payloads rest tail gate bad _ lengths closed same = none_in_rest payloads rest tail gate bad lengths closed same
none_behind (first ∷ front) [] rest tail gate bad _ _ closed same = let opened : gate ≡ 1 = cc in closed opened
none_behind (first ∷ front) (payload ∷ payloads) rest tail gate bad lengths lengths_too closed same =
    let behind : (led first ++ records front) ++ rest ≡ (led payload ++ records payloads) ++ gate ∷ tail = cc in
    let regrouped : led first ++ (records front ++ rest) ≡ led payload ++ (records payloads ++ gate ∷ tail) = sym (append_assoc (led first) (records front) rest) ∙ behind ∙ append_assoc (led payload) (records payloads) (gate ∷ tail) in
    let parts : (first ≡ payload) × (records front ++ rest ≡ records payloads ++ gate ∷ tail) = led_same first payload (records front ++ rest) (records payloads ++ gate ∷ tail) lengths.0 lengths_too.0 regrouped in
    none_behind front payloads rest tail gate bad lengths.1 lengths_too.1 closed parts.1

-- where no record stands behind an open gate the file holds no list
pub ends_bad : (content : List ℕ) (front payloads : List (List ℕ)) (end : ℕ) → BeginsWith content front end → 6 ≤ length content → IsNoRecord (drop end content) → ¬ HoldsList payloads content
ends_bad content front payloads end begins long bad (place, inr short) = absurd (omega (arith, short.short))
ends_bad content front payloads end begins long bad (place, inl log) = none_behind front payloads (drop end content) log.rest log.gate bad begins.lengths log.lengths log.closed (sym begins.split ∙ log.split)
