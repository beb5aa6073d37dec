-- Each command's frame is read, and tells the command.
use Rattle.std.proofs.Common.{◌≡◌, ℕ, Bool, true, ◌/◌, ◌^◌, ◌<◌, List, [], ◌∷◌, get_or, drop, ℤ, is_some, Some, Ok, Err, Option, sym, refl, ap, ◌∙◌, arith, w32, to_z, of_z}
use denote.Struct.Record.{values_one}
use Rattle.std.specs.Prelude.{FitsSigned, MatchResult}
use Rattle.std.proofs.Math.Facts.{Fits-of_z}
use Rattle.std.proofs.lemmas.Int.{to_z-of_z}
use Rattle.orders.specs.Codes.{side_byte, side_of, time_number, time_of, capacity_byte, capacity_of, constraint_byte, constraint_of, leaves_byte, leaves_of, style_byte, style_of, peg_byte, peg_of, grade_number, grade_of, lots_byte, lots_of}
use Rattle.orders.proofs.FoundAgain.{side_is, capacity_is, constraint_is, leaves_is, style_is, peg_is, grade_is, lots_is}
use Rattle.orders.specs.declared.fields.TimeInForce.{TimeInForce}
use Rattle.orders.specs.declared.fields.TimeInForce.TheVariants.{Immediate, MarketHours}
use Rattle.orders.specs.declared.enter.EnterOrder.{EnterOrder}
use Rattle.orders.specs.declared.command.ReplaceOrder.{ReplaceOrder}
use Rattle.orders.specs.declared.command.CancelOrder.{CancelOrder}
use Rattle.orders.specs.declared.command.Command.{Command}
use Rattle.orders.specs.declared.command.Command.TheVariants.{Enter, Replace, Cancel}
use Rattle.orders.specs.contracts.enter.EnterOrder as enter
use Rattle.orders.specs.contracts.command.ReplaceOrder as replace
use Rattle.orders.specs.contracts.command.CancelOrder as cancel
use Rattle.ubp.specs.declared.refusal.ReadRefusal.{ReadRefusal}
use Rattle.ubp.specs.Bytes.{big4, bytes4}
use Rattle.ubp.specs.Commands.{enter_type, enter_fields, replace_type, replace_fields, cancel_type, cancel_fields}
use Rattle.ubp.specs.Formats.{bytes_of}
use Rattle.ubp.specs.Frames.{Verdict, verdict, encoded}
use Rattle.ubp.specs.Theorems.{ReadBack, Taken, Told}
use Rattle.ubp.proofs.Own.{Good, good_read, Each, each}
use Rattle.ubp.proofs.Pegs.{test_is}

time_number_is : (t : TimeInForce) → time_of (big4 (bytes4 (time_number t))) ≡ Some t
time_number_is Immediate = refl
time_number_is MarketHours = refl

-- a field that is good whatever it holds, a text of its length, and a code in its list, each before good fields
plain : {m : ℕ} {G : Type 0} → G → (m ≡ m) × (true ≡ true) × G
plain g = (refl, refl, g)

sized : {m n : ℕ} {G : Type 0} → m ≡ n → G → (m ≡ n) × (true ≡ true) × G
sized e g = (e, refl, g)

lawful : {m : ℕ} {b : Bool} {G : Type 0} → b ≡ true → G → (m ≡ m) × (b ≡ true) × G
lawful e g = (refl, e, g)

pub enter_good : (c : EnterOrder) → Good c enter_fields
unfolding enter_fields
enter_good c =
    let t = c.terms in
    sized c.sized.0 (lawful (ap is_some (side_is t.side))
    (plain (sized c.sized.1 (plain
    (lawful (ap is_some (time_number_is t.time)) (sized c.sized.2
    (plain (lawful (ap is_some (capacity_is t.capacity)) (plain (plain (plain
    (lawful (test_is t.peg t.constraint ∙ c.pegged) (plain (lawful (ap is_some (leaves_is t.leaves)) (plain
    (lawful (ap is_some (style_is t.style)) (lawful (ap is_some (peg_is t.peg)) (plain (plain
    (lawful (ap is_some (grade_is t.grade)) (plain (lawful (ap is_some (lots_is t.lots)) tt))))))))))))))))))))))

pub replace_good : (c : ReplaceOrder) → Good c replace_fields
unfolding replace_fields
replace_good c =
    sized c.sized.0 (sized c.sized.1 (plain (plain
    (lawful (ap is_some (time_number_is c.time)) (plain (plain (plain
    (lawful (ap is_some (style_is c.style)) (lawful (ap is_some (peg_is c.peg)) (plain (plain (plain (plain
    (lawful (ap is_some (lots_is c.lots)) tt))))))))))))))

pub cancel_good : (c : CancelOrder) → Good c cancel_fields
unfolding cancel_fields
cancel_good c = sized c.sized (plain tt)

pub taken_own : (c : Command) → Taken c
taken_own (Enter c) = good_read enter_type c enter_fields (enter_good c)
taken_own (Replace c) = good_read replace_type c replace_fields (replace_good c)
taken_own (Cancel c) = good_read cancel_type c cancel_fields (cancel_good c)

-- values with the same code are the same
code_same : {V : Type 0} (code : V → ℕ) (of : ℕ → Option V) → ((v : V) → of (code v) ≡ Some v) → (x y : V) → code x ∷ [] ≡ code y ∷ [] → x ≡ y
code_same code of is x y e = let s : Some x ≡ Some y = sym (is x) ∙ ap (λ b. of (get_or b 0 0)) e ∙ is y in cc

time_same : (x y : TimeInForce) → bytes4 (time_number x) ≡ bytes4 (time_number y) → x ≡ y
time_same x y e = let s : Some x ≡ Some y = sym (time_number_is x) ∙ ap (λ b. time_of (big4 b)) e ∙ time_number_is y in cc

big_bytes : (n : ℕ) → n < 2 ^ 32 → big4 (bytes4 n) ≡ n
big_bytes n h =
    let e1 : n / 65536 ≡ n / 256 / 256 = omega arith in
    let e2 : n / 16777216 ≡ n / 65536 / 256 = omega arith in
    let e3 : n / 16777216 < 256 = omega arith in
    rw e1 (omega arith)

number_same : (m n : ℕ) → m < 2 ^ 32 → n < 2 ^ 32 → bytes4 m ≡ bytes4 n → m ≡ n
number_same m n p q e = sym (big_bytes m p) ∙ ap big4 e ∙ big_bytes n q

price_same : (x y : ℤ) → FitsSigned w32 x → FitsSigned w32 y → bytes4 (of_z w32 x) ≡ bytes4 (of_z w32 y) → x ≡ y
price_same x y p q e =
    sym (to_z-of_z w32 x p) ∙ ap (to_z w32) (number_same (of_z w32 x) (of_z w32 y) (Fits-of_z p).fits (Fits-of_z q).fits e) ∙ to_z-of_z w32 y q

cancel_same : (c d : CancelOrder) → bytes_of cancel_fields c ≡ bytes_of cancel_fields d → c ≡ d
unfolding cancel_fields
cancel_same c d e =
    let s : Each cancel_fields c d = each c d cancel_fields (cancel_good c) (cancel_good d) e in
    values_one cancel.struct (cancel.the_type).propositions c d (λ i. (s.0 i, tt))

replace_same : (c d : ReplaceOrder) → bytes_of replace_fields c ≡ bytes_of replace_fields d → c ≡ d
unfolding replace_fields
replace_same c d e =
    let s : Each replace_fields c d = each c d replace_fields (replace_good c) (replace_good d) e in
    let a2 = s.1.1 in
    let a4 = a2.1.1 in
    let a7 = a4.1.1.1 in
    let a8 = a7.1 in
    let a14 = a8.1.1.1.1.1.1 in
    let shares = number_same c.shares d.shares c.fits.0 d.fits.0 a2.0 in
    let price = price_same c.price d.price c.priced d.priced a2.1.0 in
    let time = time_same c.time d.time a4.0 in
    let minimum = number_same c.minimum d.minimum c.fits.1 d.fits.1 a7.0 in
    let style = code_same style_byte style_of style_is c.style d.style a8.0 in
    let peg = code_same peg_byte peg_of peg_is c.peg d.peg a8.1.0 in
    let lots = code_same lots_byte lots_of lots_is c.lots d.lots a14.0 in
    values_one replace.struct (replace.the_type).propositions c d (λ i. (s.0 i, (s.1.0 i, (shares i, (price i, (time i, (minimum i, (style i, (peg i, (lots i, tt))))))))))

enter_same : (c d : EnterOrder) → bytes_of enter_fields c ≡ bytes_of enter_fields d → c ≡ d
unfolding enter_fields
enter_same c d e =
    let s : Each enter_fields c d = each c d enter_fields (enter_good c) (enter_good d) e in
    let a2 = s.1.1 in
    let a4 = a2.1.1 in
    let a6 = a4.1.1 in
    let a8 = a6.1.1 in
    let a10 = a8.1.1 in
    let a12 = a10.1.1 in
    let a14 = a12.1.1 in
    let a16 = a14.1.1 in
    let a20 = a16.1.1.1.1 in
    let shares = number_same c.shares d.shares c.fits.0 d.fits.0 a2.0 in
    let price = price_same c.price d.price c.priced d.priced a4.0 in
    let side = code_same side_byte side_of side_is c.terms.side d.terms.side s.1.0 in
    let time = time_same c.terms.time d.terms.time a4.1.0 in
    let capacity = code_same capacity_byte capacity_of capacity_is c.terms.capacity d.terms.capacity a8.0 in
    let minimum = number_same c.terms.minimum d.terms.minimum c.fits.1 d.fits.1 a10.0 in
    let constraint = code_same constraint_byte constraint_of constraint_is c.terms.constraint d.terms.constraint a12.0 in
    let leaves = code_same leaves_byte leaves_of leaves_is c.terms.leaves d.terms.leaves a14.0 in
    let style = code_same style_byte style_of style_is c.terms.style d.terms.style a16.0 in
    let peg = code_same peg_byte peg_of peg_is c.terms.peg d.terms.peg a16.1.0 in
    let grade = code_same grade_number grade_of grade_is c.terms.grade d.terms.grade a20.0 in
    let lots = code_same lots_byte lots_of lots_is c.terms.lots d.terms.lots a20.1.1.0 in
    let same : c.terms ≡ d.terms = λ i. record {
      side = side i;
      stock = a2.1.0 i;
      time = time i;
      firm = a6.0 i;
      capacity = capacity i;
      minimum = minimum i;
      constraint = constraint i;
      leaves = leaves i;
      style = style i;
      peg = peg i;
      grade = grade i;
      lots = lots i;
    } in
    values_one enter.struct (enter.the_type).propositions c d (λ i. (s.0 i, (shares i, (price i, (same i, tt)))))

-- another first byte is another frame
other : {X : Type 0} {b k : ℕ} {f g : List ℕ} → (b ≡ k → ⊥) → b ∷ f ≡ k ∷ g → X
other {X} {b} {k} {f} {g} n e = absurd (n (ap (λ xs. get_or xs 0 0) e))

rest : {b : ℕ} {f g : List ℕ} → b ∷ f ≡ b ∷ g → f ≡ g
rest {b} {f} {g} e = ap (drop 1) e

pub told_own : (c : Command) → Told c
told_own (Enter c) (Enter d) e = ap Enter (enter_same d c (rest e))
told_own (Enter c) (Replace d) e = other (omega arith) e
told_own (Enter c) (Cancel d) e = other (omega arith) e
told_own (Replace c) (Enter d) e = other (omega arith) e
told_own (Replace c) (Replace d) e = ap Replace (replace_same d c (rest e))
told_own (Replace c) (Cancel d) e = other (omega arith) e
told_own (Cancel c) (Enter d) e = other (omega arith) e
told_own (Cancel c) (Replace d) e = other (omega arith) e
told_own (Cancel c) (Cancel d) e = ap Cancel (cancel_same d c (rest e))

-- a frame that is refused is no command's
pub no_frame : {X : Type 0} (frame : List ℕ) {x : ReadRefusal} → Err x ≡ verdict frame → (c : Command) → frame ≡ encoded c → X
no_frame frame e c f = let z : ◌≡◌ {A = ℕ} 0 1 = cc (e ∙ ap verdict f ∙ taken_own c) in absurd (omega arith)

-- what a reader with these answers fills in, where it reads a command's own frame
pub read_back : (frame : List ℕ) (r : Verdict) (old d : Command) → r ≡ verdict frame → MatchResult r (λ _. frame ≡ encoded d) (λ _. d ≡ old) → ReadBack frame r d
read_back frame (Ok x) old d a f c e = (refl, told_own c d (sym f ∙ e))
read_back frame (Err x) old d a f c e = no_frame frame a c e
