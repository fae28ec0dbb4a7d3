-- The house in which rows are told: declarations that stand on the first line of each text.
-- A row says which breach is the first of a text whose second line it is, or of a text by itself.
use Rattle.std.proofs.Common.{◌≡◌, [], refl, true, false}
use Rattle.std.specs.Prelude.{ℕ, pos, codes, List, Option, Some, None}
use Rattle.dpl_language.specs.Tree.{ArrayType, BoolKind, By, Closed, Declare, DomainLiteral, FirstItem, HereWord, IntKind, ItemInit, Named, NextItem, NoItems, NoStmts}
use Rattle.dpl_language.specs.Tree.{NoStride, Number, One, RangeItem, ScalarType, SyncType, Then}
use Rattle.dpl_language.specs.Tree.{Stmts, ProgramTree}
use Rattle.dpl_language.proofs.Spelled.{at, name, array_type, declared, initial, typed}
use Rattle.dpl_syntax.specs.declared.refusal.Code.{Code}
use Rattle.dpl_syntax.specs.declared.refusal.Breach.{Breach}
use Rattle.dpl_rules.specs.Breaches.{breaches, first_breach}

abbrev pub program : Stmts (List ℕ) → ProgramTree (List ℕ)
program ts = record { uses = []; stmts = ts; end = at 1 1 }

abbrev pub told : ℕ → ℕ → Code → Option Breach
told line column code = Some (record { at = at line column; code = code })

-- const D = {1..8}; var E = {1..4, 1..4}; const S = {1..8 by 2}; const T = {1..2, 1..2, 1..2}; var A: [D] int; var B: [E] int; var C: [D] int; var F:
-- [D] bool; var G: [1..8] int; const r = 1..8; const q = 1..8 by 2; var n: int; var b: bool; const k = 3; var c: sync int; var f: sync bool; var h =
-- here; var V = {1..8}; config const m = 4; var z = 1..2;
abbrev pub behind_house : Stmts (List ℕ) → Stmts (List ℕ)
behind_house ts =
    (Then (Declare (declared None (at 1 1) true (name (codes "D") (at 1 7)) None (Some (initial (at 1 9) (ItemInit (One
    (DomainLiteral (at 1 11) (FirstItem (RangeItem (Number (at 1 12) (pos 1)) (at 1 13) Closed (Number (at 1 15) (pos 8)) NoStride)
    NoItems) (at 1 16))) None))) (at 1 17))) (Then (Declare (declared None (at 1 19) false (name (codes "E") (at 1 23)) None (Some
    (initial (at 1 25) (ItemInit (One (DomainLiteral (at 1 27) (FirstItem (RangeItem (Number (at 1 28) (pos 1)) (at 1 29) Closed
    (Number (at 1 31) (pos 4)) NoStride) (NextItem (at 1 32) (RangeItem (Number (at 1 34) (pos 1)) (at 1 35) Closed (Number
    (at 1 37) (pos 4)) NoStride) NoItems)) (at 1 38))) None))) (at 1 39))) (Then (Declare (declared None (at 1 41) true
    (name (codes "S") (at 1 47)) None (Some (initial (at 1 49) (ItemInit (One (DomainLiteral (at 1 51) (FirstItem (RangeItem (Number
    (at 1 52) (pos 1)) (at 1 53) Closed (Number (at 1 55) (pos 8)) (By (at 1 57) (Number (at 1 60) (pos 2)))) NoItems) (at 1 61)))
    None))) (at 1 62))) (Then (Declare (declared None (at 1 64) true (name (codes "T") (at 1 70)) None (Some (initial (at 1 72)
    (ItemInit (One (DomainLiteral (at 1 74) (FirstItem (RangeItem (Number (at 1 75) (pos 1)) (at 1 76) Closed (Number (at 1 78) (pos
    2)) NoStride) (NextItem (at 1 79) (RangeItem (Number (at 1 81) (pos 1)) (at 1 82) Closed (Number (at 1 84) (pos 2)) NoStride)
    (NextItem (at 1 85) (RangeItem (Number (at 1 87) (pos 1)) (at 1 88) Closed (Number (at 1 90) (pos 2)) NoStride) NoItems)))
    (at 1 91))) None))) (at 1 92))) (Then (Declare (declared None (at 1 94) false (name (codes "A") (at 1 98)) (Some (typed
    (at 1 99) (ArrayType (array_type (at 1 101) (FirstItem (One (Named (name (codes "D") (at 1 102)))) NoItems) (at 1 103)
    (at 1 105) IntKind)))) None (at 1 108))) (Then (Declare (declared None (at 1 110) false (name (codes "B") (at 1 114)) (Some
    (typed (at 1 115) (ArrayType (array_type (at 1 117) (FirstItem (One (Named (name (codes "E") (at 1 118)))) NoItems) (at 1 119)
    (at 1 121) IntKind)))) None (at 1 124))) (Then (Declare (declared None (at 1 126) false (name (codes "C") (at 1 130)) (Some
    (typed (at 1 131) (ArrayType (array_type (at 1 133) (FirstItem (One (Named (name (codes "D") (at 1 134)))) NoItems) (at 1 135)
    (at 1 137) IntKind)))) None (at 1 140))) (Then (Declare (declared None (at 1 142) false (name (codes "F") (at 1 146)) (Some
    (typed (at 1 147) (ArrayType (array_type (at 1 149) (FirstItem (One (Named (name (codes "D") (at 1 150)))) NoItems) (at 1 151)
    (at 1 153) BoolKind)))) None (at 1 157))) (Then (Declare (declared None (at 1 159) false (name (codes "G") (at 1 163)) (Some
    (typed (at 1 164) (ArrayType (array_type (at 1 166) (FirstItem (RangeItem (Number (at 1 167) (pos 1)) (at 1 168) Closed (Number
    (at 1 170) (pos 8)) NoStride) NoItems) (at 1 171) (at 1 173) IntKind)))) None (at 1 176))) (Then (Declare (declared None
    (at 1 178) true (name (codes "r") (at 1 184)) None (Some (initial (at 1 186) (ItemInit (RangeItem (Number (at 1 188) (pos 1))
    (at 1 189) Closed (Number (at 1 191) (pos 8)) NoStride) None))) (at 1 192))) (Then (Declare (declared None (at 1 194) true
    (name (codes "q") (at 1 200)) None (Some (initial (at 1 202) (ItemInit (RangeItem (Number (at 1 204) (pos 1)) (at 1 205) Closed
    (Number (at 1 207) (pos 8)) (By (at 1 209) (Number (at 1 212) (pos 2)))) None))) (at 1 213))) (Then (Declare (declared None
    (at 1 215) false (name (codes "n") (at 1 219)) (Some (typed (at 1 220) (ScalarType (at 1 222) IntKind))) None (at 1 225))) (Then
    (Declare (declared None (at 1 227) false (name (codes "b") (at 1 231)) (Some (typed (at 1 232) (ScalarType (at 1 234)
    BoolKind))) None (at 1 238))) (Then (Declare (declared None (at 1 240) true (name (codes "k") (at 1 246)) None (Some (initial
    (at 1 248) (ItemInit (One (Number (at 1 250) (pos 3))) None))) (at 1 251))) (Then (Declare (declared None (at 1 253) false
    (name (codes "c") (at 1 257)) (Some (typed (at 1 258) (SyncType (at 1 260) (at 1 265) IntKind))) None (at 1 268))) (Then
    (Declare (declared None (at 1 270) false (name (codes "f") (at 1 274)) (Some (typed (at 1 275) (SyncType (at 1 277) (at 1 282)
    BoolKind))) None (at 1 286))) (Then (Declare (declared None (at 1 288) false (name (codes "h") (at 1 292)) None (Some (initial
    (at 1 294) (ItemInit (One (HereWord (at 1 296))) None))) (at 1 300))) (Then (Declare (declared None (at 1 302) false
    (name (codes "V") (at 1 306)) None (Some (initial (at 1 308) (ItemInit (One (DomainLiteral (at 1 310) (FirstItem (RangeItem
    (Number (at 1 311) (pos 1)) (at 1 312) Closed (Number (at 1 314) (pos 8)) NoStride) NoItems) (at 1 315))) None))) (at 1 316)))
    (Then (Declare (declared (Some (at 1 318)) (at 1 325) true (name (codes "m") (at 1 331)) None (Some (initial (at 1 333)
    (ItemInit (One (Number (at 1 335) (pos 4))) None))) (at 1 336))) (Then (Declare (declared None (at 1 338) false
    (name (codes "z") (at 1 342)) None (Some (initial (at 1 344) (ItemInit (RangeItem (Number (at 1 346) (pos 1)) (at 1 347) Closed
    (Number (at 1 349) (pos 2)) NoStride) None))) (at 1 350))) ts))))))))))))))))))))

-- the first breach of a text behind the house's line, and of one by itself
abbrev pub in_house : Stmts (List ℕ) → Option Breach
in_house ts = first_breach (program (behind_house ts))

abbrev pub alone : Stmts (List ℕ) → Option Breach
alone ts = first_breach (program ts)

-- all breaches of a text by itself, in the order in which the rules find them
abbrev pub broken : ℕ → ℕ → Code → Breach
broken line column code = record { at = at line column; code = code }

abbrev pub all_of : Stmts (List ℕ) → List Breach
all_of ts = breaches (program ts)

-- the house itself is sound
house_breaches : breaches (program (behind_house NoStmts)) ≡ []
house_breaches = refl
