-- What follows from the definitions of a header: what it keeps to, that it and its bytes say the same, and what a sound log has.
use Rattle.std.specs.Prelude.{Err, None, Ok, Option, Some, is_ok}
use Rattle.calendar.specs.declared.date.DateError.{DateError}
use Prim.Native.Nat.{ℕ, ◌+◌, ◌*◌, ◌-◌, ◌/◌, ◌%◌, ◌≤◌, ◌<◌}
use native.Mathlib.Nat.{mul-le-mul}
use native.Mathlib.Omega.{arith}
use mathlib.Core.Path.{◌≡◌, refl, sym, ap, ◌∙◌}
use mathlib.Core.Bool.{Bool, true, false, cond, ◌&&◌, ◌||◌, false≢true, and-false}
use mathlib.Core.List.{List, [], ◌∷◌, ◌++◌}
use lib.Dec.{ltb, eqb}
use lib.ListN.{length, take}
use borrow.Author.Tests.{ltb-true, lt-ltb, leb-true, eqb-true, eq-eqb, ne_eqb}
use Rattle.slots.proofs.DayLaws.{slots_most, slots-at-most}
use Rattle.byte_numbers.specs.Number.{number, bytes_of, Bytes}
use Rattle.byte_numbers.specs.Place.{byte_at, number_at}
use Rattle.byte_numbers.proofs.NumberLaws.{bytes-bytes_of}
use Rattle.test_laws.proofs.Test.{both, chosen}
use Rattle.slots.specs.Day.{is_minutes, slots_of}
use Rattle.calendar.specs.Count.{starts}
use Rattle.calendar.specs.Date as date
use Rattle.calendar.specs.Date.{leap, month_lengths, days_in_month, days_before, month_number, is_date, day_number, date_on, days_later, date_of, century_days}
use Rattle.calendar.proofs.CountLaws.{ends-before}
use Rattle.calendar.proofs.DateLaws.{ranges, month-length, date-lies}
use Rattle.calendar.specs.declared.date.Date.{Date}
use Rattle.calendar.specs.declared.date.DateError.TheVariants.{NotADate, OutOfRange}
use Rattle.log_header.specs.Header.{header_size, days_most, cells_most, image_most, version, if_sound, cells_of, length_of, days_right, is_header, date_bytes, header_bytes_as, header_bytes, header_at}
use Rattle.log_header.specs.Header.{mark_right, version_at, version_right, fields_right, header_of, fitted_to, sound_of}
use Rattle.byte_numbers.proofs.ByteLaws.{run, take-run, low, high, low_of, high-of, bytes-nil, bytes-cons, bytes-append}
use Rattle.log_header.specs.declared.header.Header.{Header}

-- a header's bytes hold no more cells than this, right or not
pub cells-at-most : (h : Header) → h.days < 256 → cells_of h ≤ 255 * slots_most
unfolding cells_of
cells-at-most h d =
    let k : h.days ≤ 255 = omega arith in
    mul-le-mul k (slots-at-most h.minutes)

-- "Every day has 48 or 96 slots", or none: the kinds of a log's cells fill their bytes
days-fours : (d m : ℕ) → d * slots_of m % 4 ≡ 0
unfolding slots_of is_minutes
days-fours d m = go (eqb m 15) refl (eqb m 30) refl
  where
    go : (a : Bool) → eqb m 15 ≡ a → (b : Bool) → eqb m 30 ≡ b → d * slots_of m % 4 ≡ 0
    go true e b f = rw (eqb-true m 15 e) (omega arith)
    go false e true f = rw (eqb-true m 30 f) (omega arith)
    go false e false f = rw (e, f) (omega arith)

-- so a log has its cells in fours
pub cells-fours : (h : Header) → cells_of h % 4 ≡ 0
unfolding cells_of
cells-fours h = days-fours h.days h.minutes

-- ---- what a header keeps to

-- each of its fields by itself
pub record HeaderRanges (h : Header) : Type 0 where
  pub start : is_date h.start ≡ true
  pub days-from : 1 ≤ h.days
  pub days-to : h.days ≤ days_most
  pub last-day : day_number h.start + (h.days - 1) < century_days
  pub minutes : is_minutes h.minutes ≡ true
  pub ke-from : 1 ≤ h.ke
  pub ke-to : h.ke ≤ 65535
  pub seasons-to : h.seasons ≤ 1

-- a right header keeps to all of them
pub header-ranges : (h : Header) → is_header h ≡ true → HeaderRanges h
unfolding is_header days_right
header-ranges h e =
    let z = both _ _ e in
    let a = both _ _ z.0 in
    let b = both _ _ a.0 in
    let c = both _ _ b.0 in
    let d = both _ _ c.0 in
    let f = both _ _ d.1 in
    let g = both _ _ f.0 in
    record {
      start = d.0;
      days-from = leb-true _ _ g.0;
      days-to = leb-true _ _ g.1;
      last-day = ltb-true _ _ f.1;
      minutes = c.1;
      ke-from = leb-true _ _ b.1;
      ke-to = leb-true _ _ a.1;
      seasons-to = leb-true _ _ z.1;
    }

-- n days later there is a date where the start is one and the century has not ended
pub has-date : (d : Date) (n : ℕ) → is_ok (days_later d n) ≡ (is_date d && ltb (day_number d + n) century_days)
unfolding days_later date_on
has-date d n = go (is_date d) (ltb (day_number d + n) century_days) (date_of (day_number d + n))
  where
    go : (a b : Bool) (x : Date) → is_ok {E = DateError} (cond a (cond b (Ok x) (Err OutOfRange)) (Err NotADate)) ≡ (a && b)
    go true true x = refl
    go true false x = refl
    go false b x = refl

-- the days before the last of the hundred years
before-last-year : days_before 1188 ≡ 36160
unfolding starts date.length_of days_in_month month_lengths leap
before-last-year = refl

-- from a day of an earlier year, 255 days later the century has not ended
pub before_last : (d : Date) (n : ℕ) → d.year < 99 → n < 256 → is_date d ≡ (is_date d && ltb (day_number d + n) century_days)
unfolding day_number
before_last d n y h = go (is_date d) refl
  where
    go : (b : Bool) → is_date d ≡ b → b ≡ (b && ltb (day_number d + n) century_days)
    go true e =
        let l = date-lies d e in
        let k : month_number d < 1188 = omega (arith, (ranges d e).month-to) in
        sym (lt-ltb (day_number d + n) century_days (omega (arith, l.rest_below, ends-before date.length_of (month_number d) 1188 k, before-last-year)))
    go false e = refl

-- ---- a header and its bytes

-- a header has fourteen bytes, whatever its version
pub length-header_bytes : (v : ℕ) (h : Header) → length (header_bytes_as v h) ≡ header_size
unfolding header_bytes_as date_bytes bytes_of
length-header_bytes v h = refl

-- a header that was put is the one that is read, whatever stands behind it
pub header_at-bytes : (v : ℕ) (h : Header) (rest : List ℕ) → h.ke ≤ 65535 → header_at (header_bytes_as v h ++ rest) ≡ h
unfolding header_at header_bytes_as date_bytes bytes_of number_at number
header_at-bytes v h rest k =
    let e : (0 * 256 + h.ke / 256 % 256) * 256 + h.ke % 256 ≡ h.ke = omega arith in
    rw e

-- bytes that begin with a header's, of whatever version, are read as that header
module _ (v : ℕ) (h : Header) (rest : List ℕ) where
  -- their mark is the right one
  pub mark-right : mark_right (header_bytes_as v h ++ rest) ≡ true
  unfolding mark_right header_bytes_as date_bytes bytes_of
  mark-right = refl

  -- their version is the one that was put
  pub version-at : v ≤ 65535 → version_at (header_bytes_as v h ++ rest) ≡ v
  unfolding header_bytes_as date_bytes bytes_of number_at number
  version-at k = let e : (0 * 256 + v / 256 % 256) * 256 + v % 256 ≡ v = omega arith in e

  zero_right : eqb (byte_at (header_bytes_as v h ++ rest) 13) 0 ≡ true
  unfolding header_bytes_as date_bytes bytes_of
  zero_right = refl

  -- a right header is found right
  pub header-right : is_header h ≡ true → header_of (header_bytes_as v h ++ rest) ≡ Some h
  unfolding header_of fields_right
  header-right e = simp (header_at-bytes v h rest (header-ranges h e).ke-to, e, zero_right)

-- the bytes of today's header are of today's version
pub version-right : (h : Header) (rest : List ℕ) → version_right (header_bytes h ++ rest) ≡ true
unfolding version_right
version-right h rest = eq-eqb _ _ (version-at version h rest (omega arith))

-- and where they are of today's version and as long as it says, they are a log
pub sound-bytes : (h : Header) (rest : List ℕ) → is_header h ≡ true → length (header_bytes h ++ rest) ≡ length_of h → sound_of (header_bytes h ++ rest) ≡ Some h
unfolding sound_of fitted_to
sound-bytes h rest e l = simp (mark-right version h rest, version-right h rest, header-right version h rest e, eq-eqb _ _ l)

minutes-byte : (m : ℕ) → is_minutes m ≡ true → m < 256
unfolding is_minutes
minutes-byte m e = go (eqb m 15) refl (eqb m 30) refl e
  where
    go : (a : Bool) → eqb m 15 ≡ a → (b : Bool) → eqb m 30 ≡ b → (a || b) ≡ true → m < 256
    go true p b q e = omega (arith, eqb-true m 15 p)
    go false p true q e = omega (arith, eqb-true m 30 q)
    go false p false q e = absurd (false≢true e)

-- a right header's bytes are bytes
pub bytes-header : (v : ℕ) (h : Header) → is_header h ≡ true → Bytes (header_bytes_as v h)
unfolding header_bytes_as date_bytes
bytes-header v h e =
    let r = header-ranges h e in
    let d = ranges h.start r.start in
    let m = month-length h.start.year h.start.month (record { year-below = d.year-below; month-from = d.month-from; month-to = d.month-to }) in
    let seasons = h.seasons ∷ 0 ∷ [] in
    let ke = bytes_of 2 h.ke ++ seasons in
    let length = h.days ∷ h.minutes ∷ ke in
    let start = h.start.year ∷ h.start.month ∷ h.start.day ∷ length in
    let versioned = bytes_of 2 v ++ start in
    three 71 69 76 versioned (omega arith) (omega arith) (omega arith)
    (bytes-append (bytes_of 2 v) start (bytes-bytes_of 2 v)
    (three h.start.year h.start.month h.start.day length (omega (arith, d.year-below)) (omega (arith, d.month-to)) (omega (arith, d.day-to, m.at_most))
    (bytes-cons h.days (h.minutes ∷ ke) (omega (arith, r.days-to))
    (bytes-cons h.minutes ke (minutes-byte h.minutes r.minutes)
    (bytes-append (bytes_of 2 h.ke) seasons (bytes-bytes_of 2 h.ke)
    (bytes-cons h.seasons (0 ∷ []) (omega (arith, r.seasons-to)) (bytes-cons 0 [] (omega arith) bytes-nil)))))))
  where
    three : (a b c : ℕ) (xs : List ℕ) → a < 256 → b < 256 → c < 256 → Bytes xs → Bytes (a ∷ b ∷ c ∷ xs)
    three a b c xs x y z k = bytes-cons a (b ∷ c ∷ xs) x (bytes-cons b (c ∷ xs) y (bytes-cons c xs z k))

-- ---- what a sound log has

-- one test of mark, version, fields and length
pub sound-where : (s : List ℕ)
    → sound_of s ≡ cond ((mark_right s && version_right s) && (fields_right s && eqb (length s) (length_of (header_at s)))) (Some (header_at s)) None
unfolding sound_of header_of fitted_to
sound-where s = go (mark_right s && version_right s) (fields_right s)
  where
    go : (a b : Bool) → cond a (fitted_to (length s) (cond b (Some (header_at s)) None)) None
        ≡ cond (a && (b && eqb (length s) (length_of (header_at s)))) (Some (header_at s)) None
    go true true = refl
    go true false = refl
    go false b = refl

-- a log is no shorter than its header
pub short-unsound : (s : List ℕ) → length s < header_size → sound_of s ≡ None
unfolding length_of
short-unsound s k =
    let e : eqb (length s) (length_of (header_at s)) ≡ false = ne_eqb (length s) (length_of (header_at s)) (λ p. omega (arith, k, p)) in
    sound-where s ∙ rw (e, and-false (fields_right s), and-false (mark_right s && version_right s))

-- each thing that was tested, by itself
pub record SoundLog (s : List ℕ) (h : Header) : Type 0 where
  pub mark : mark_right s ≡ true
  pub version : version_right s ≡ true
  pub zero : byte_at s 13 ≡ 0
  pub header : header_at s ≡ h
  pub ranges : is_header h ≡ true
  pub size : length s ≡ length_of h

unsound≢sound : (h : Header) → None ≡ Some h → ⊥
unsound≢sound h p = let z : ◌≡◌ {A = ℕ} 0 1 = cc in omega arith

fitted-right : (f : Bool) (n : ℕ) (x h : Header) → fitted_to n (cond f (Some x) None) ≡ Some h
    → (f ≡ true) × (cond (eqb n (length_of x)) (Some x) None ≡ Some h)
unfolding fitted_to
fitted-right true n x h p = (refl, p)
fitted-right false n x h p = absurd (unsound≢sound h p)

-- bytes that are a log have all of these
pub sound-log : (s : List ℕ) (h : Header) → sound_of s ≡ Some h → SoundLog s h
unfolding sound_of header_of fields_right
sound-log s h p =
    let a = chosen (mark_right s && version_right s) (fitted_to (length s) (header_of s)) None p (unsound≢sound h) in
    let m = both _ _ a.0 in
    let b = fitted-right (fields_right s) (length s) (header_at s) h a.1 in
    let f = both _ _ b.0 in
    let c = chosen (eqb (length s) (length_of (header_at s))) (Some (header_at s)) None b.1 (unsound≢sound h) in
    let e : header_at s ≡ h = cc c.1 in
    record {
      mark = m.0;
      version = m.1;
      zero = eqb-true _ _ f.1;
      header = e;
      ranges = sym (ap is_header e) ∙ f.0;
      size = eqb-true _ _ c.0 ∙ ap length_of e;
    }

-- ---- what bytes have that are read as a header

-- the zero byte and a header with its ranges
pub record RightHeader (s : List ℕ) (h : Header) : Type 0 where
  pub zero : byte_at s 13 ≡ 0
  pub header : header_at s ≡ h
  pub ranges : is_header h ≡ true

wrong≢right : (h : Header) → None ≡ Some h → ⊥
wrong≢right h p = let z : ◌≡◌ {A = ℕ} 0 1 = cc in omega arith

-- bytes that are read as a header have all of these
pub right-header : (s : List ℕ) (h : Header) → header_of s ≡ Some h → RightHeader s h
unfolding header_of fields_right
right-header s h p =
    let a = chosen (is_header (header_at s) && eqb (byte_at s 13) 0) (Some (header_at s)) None p (wrong≢right h) in
    let b = both _ _ a.0 in
    let e : header_at s ≡ h = cc a.1 in
    record { zero = eqb-true _ _ b.1; header = e; ranges = sym (ap is_header e) ∙ b.0 }

-- bytes that pass the test of the version say today's
pub version-is : (s : List ℕ) → version_right s ≡ true → version_at s ≡ version
unfolding version_right
version-is s e = eqb-true (version_at s) version e

-- their first fourteen are its
header-listed : (v : ℕ) (s : List ℕ) (h : Header) → Bytes s → mark_right s ≡ true → version_at s ≡ v → RightHeader s h
    → run s 0 header_size ≡ header_bytes_as v (header_at s)
unfolding run header_bytes_as date_bytes header_at bytes_of mark_right
header-listed v s h bytes mark right l =
    let m = both _ _ mark in
    let n = both _ _ m.0 in
    simp (
      eqb-true (byte_at s 0) 71 n.0,
      eqb-true (byte_at s 1) 69 n.1,
      eqb-true (byte_at s 2) 76 m.1,
      low_of s 3 v bytes right,
      high-of s 3 v bytes right,
      low s bytes 10,
      high s bytes 10,
      l.zero,
    )

-- the first fourteen bytes of what is read as a header are that header's
pub header-front : (v : ℕ) (s : List ℕ) (h : Header) → Bytes s → mark_right s ≡ true → version_at s ≡ v → RightHeader s h → header_size ≤ length s
    → take header_size s ≡ header_bytes_as v h
header-front v s h bytes mark right l long = take-run header_size 0 s long ∙ header-listed v s h bytes mark right l ∙ ap (header_bytes_as v) l.header

-- a log is long enough for its header
pub sound-long : (s : List ℕ) (h : Header) → sound_of s ≡ Some h → header_size ≤ length s
unfolding length_of
sound-long s h p = omega (arith, (sound-log s h p).size)

-- an image has room for its header
pub header-in : (h : Header) → header_size ≤ length_of h
unfolding length_of
header-in h = omega arith

-- no right header has more cells, or a longer image
pub cells-most : (h : Header) → is_header h ≡ true → cells_of h ≤ cells_most
unfolding cells_of
cells-most h e = mul-le-mul (header-ranges h e).days-to (slots-at-most h.minutes)

-- no right header has a longer image
pub image-most : (h : Header) → is_header h ≡ true → length_of h ≤ image_most
unfolding length_of
image-most h e = omega (arith, cells-most h e)

-- no log is longer than the longest image
pub image-at-most : (s : List ℕ) (h : Header) → sound_of s ≡ Some h → length s ≤ image_most
image-at-most s h p =
    let l = sound-log s h p in
    omega (arith, l.size, image-most h l.ranges)

-- a log begins with its header's bytes
pub sound-front : (s : List ℕ) (h : Header) → Bytes s → sound_of s ≡ Some h → take header_size s ≡ header_bytes h
sound-front s h bytes p =
    let l = sound-log s h p in
    header-front version s h bytes l.mark (version-is s l.version) (record { zero = l.zero; header = l.header; ranges = l.ranges }) (sound-long s h p)

-- what holds of both values holds of the one that is chosen
pub by-sound : {A : Type 0} (P : A → Type 0) (l : Option Header) {x : A} {f : Header → A}
    → (l ≡ None → P x) → ((h : Header) → l ≡ Some h → P (f h)) → P (if_sound l x f)
by-sound P None other k = other refl
by-sound P (Some h) other k = k h refl
