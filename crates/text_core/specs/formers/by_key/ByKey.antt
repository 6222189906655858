-- `ByKey` as a type that may hold the type that holds it.
use mathlib.Core.Path.{◌≡◌, refl, sym, ap, subst}
use mathlib.Core.List.{List, [], ◌∷◌, map}
use mathlib.Core.Bool.{true}
use mathlib.Core.Former.{Former, this, const, pair, list, via, children}
use base.Stored.{code_map, gcons, Coded-set, coded_bool}
use denote.RattleType.{RattleType}
use denote.HoleLaws.{Alike}
use denote.HolePlaces.{Recodes, struct_places, laid, stays}
use denote.Hole.Carrier.{listed}
use denote.Hole.Fix.{over}
use denote.Param.Weighed.{Weighed, w_list, w_via, w_pair, w_const}
use denote.Model.Placed.{view_places}
use Prim.Native.Nat.{ℕ}
use Rattle.std.specs.formers.vec.Vec as vec
use Rattle.std.specs.declared.alloc.Global.{Global}
use Rattle.std.specs.contracts.alloc.Global as heap
use Rattle.std.specs.contracts.impls.GlobalAllocator.TheImpl.{ghosts}
use Rattle.text_core.specs.declared.by_key.KeyValue.{KeyValue}
use Rattle.text_core.specs.contracts.by_key.KeyValue as K
use Rattle.text_core.specs.contracts.text.Text as text
use Rattle.text_core.specs.declared.by_key.ByKey.TheInside.{Inside}
use Rattle.text_core.specs.declared.by_key.ByKey.TheView.{view, invariant}
use Rattle.text_core.specs.contracts.by_key.ByKey as C
use Rattle.text_core.specs.contracts.by_key.ByKey.TheInside as I
use Rattle.text_core.specs.Keyed.{keys, ascend, code_one, on_value}

abbrev pub one : Former {0} → Former {0}
one g = via (pair (const (List ℕ)) g) (λ X. KeyValue (g.Of X)) (λ X e. (e.key, e.value)) (λ X p. record { key = p.0; value = p.1 }) (λ X e. refl) (λ X p. refl)

abbrev pub the_former : Former {0} → Former {0}
the_former g = list (one g)

abbrev pub the_weighed : {g : Former {0}} → Weighed g → Weighed (the_former g)
the_weighed {g} w = w_list (w_via (w_pair (w_const (List ℕ)) w) (λ X. KeyValue (g.Of X)) (λ X e. (e.key, e.value)) (λ X p. record { key = p.0; value = p.1 }) (λ X e. refl) (λ X p. refl))

pub the_empty : List (KeyValue ⊥)
the_empty = []

abbrev pub the_items : (X : Type 0) → List (KeyValue X) → List X
the_items X [] = []
the_items X (e ∷ es) = e.value ∷ the_items X es

pub the_items_listed : (X : Type 0) (d : List (KeyValue X)) → listed _ (children (the_former this) X d) ≡ the_items X d
the_items_listed X [] = refl
the_items_listed X (e ∷ es) = ap (λ l. e.value ∷ l) (the_items_listed X es)

abbrev fields : Former {0}
fields = via (vec.the_former (one this) Global) Inside (λ X a. a.entries) (λ X v. record { entries = v }) (λ X a. refl) (λ X v. refl)

keys_on_values : {X Y : Type 0} (h : X → Y) (es : List (KeyValue X)) → keys (map (on_value h) es) ≡ keys es
keys_on_values h [] = refl
keys_on_values h (e ∷ es) = ap (λ l. e.key ∷ l) (keys_on_values h es)

module _ (R S : RattleType) (h : R.Denot → S.Denot) where
  one_places : Alike R S h → Alike (K.the_row R) (K.the_row S) (on_value h)
  one_places a = struct_places (K.the_type R) (K.the_type S) ((λ k. k), (h, tt)) _ (λ d. refl) refl (stays text.the_row, (laid R S h a, tt))

  pub the_places : Alike R S h → Alike (C.the_row R) (C.the_row S) ((the_former this).map R.Denot S.Denot h)
  the_places a = view_places fields (the_former this) view (λ X Y k u. refl) (λ X u. refl) R.Denot S.Denot h (C.the_row R).coded (C.the_row S).coded
      (invariant R.Denot) (invariant S.Denot) (λ u. Coded-set coded_bool _ _) (λ u. Coded-set coded_bool _ _)
      (λ u e. subst (λ ks. ascend ks ≡ true) (sym (keys_on_values h u.entries.items)) e) (λ u e. subst (λ ks. ascend ks ≡ true) (keys_on_values h u.entries.items) e)
      (over (I.the_row R)) (over (I.the_row S))
      (struct_places (I.the_type R) (I.the_type S) (vec.mapped (on_value h), tt) _ (λ d. refl) refl (laid _ _ _ (vec.the_places heap.the_row ghosts (K.the_row R) (K.the_row S) (on_value h) (one_places a)), tt))

  pub the_codes_placed : Recodes R S h → Recodes (C.the_row R) (C.the_row S) ((the_former this).map R.Denot S.Denot h)
  the_codes_placed e d = sym (code_map (code_one R.coded).code (code_one S.coded).code (on_value h) (λ x i. gcons ((text.the_row).coded.code x.key) (sym (e x.value) i)) d)
