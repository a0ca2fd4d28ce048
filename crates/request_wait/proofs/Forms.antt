-- Reading a part is reading what stands first in it, and then the rest.
use Rattle.std.proofs.Common.{◌≡◌, ℕ, Bool, true, false, cond, eqb, Option, Some, Result, Ok, Err, refl, sym, ap, subst, ◌∙◌}
use Rattle.std.proofs.lemmas.Bool.{eqb-true, cond_both}
use Rattle.std.specs.Prelude.{◌==◌}
use Rattle.ldap_types.specs.declared.request.Auth.TheVariants.{Simple, Sasl}
use Rattle.ldap_types.specs.declared.request.Op.TheVariants as op
use Rattle.ber_core.specs.Window.{Stop, Window, Reading, ◌>>=◌, tag_here, open_here, open_as, octets, int, boolean, element, skip, ended, many, optional, outermost}
use Rattle.ldap_requests.specs.Grammar.{text, count, message_id, attribute_inside, attribute, assertion, sasl, auth, bind_inside, unbind_inside, delete_inside, abandon_inside, add_inside, modification_inside, modification, modify_inside, rename_inside, compare_inside, extended_inside, filter_at, search_inside, is_op_tag, op_inside, operation, control_inside, control, request_inside}
use Rattle.request_wait.specs.declared.part.Part.{Part}
use Rattle.request_wait.specs.declared.part.Part.TheVariants as part
use Rattle.request_wait.specs.declared.part.Leaf.TheVariants as leaf
use Rattle.request_wait.specs.declared.part.Content.{Content}
use Rattle.request_wait.specs.declared.part.Content.TheVariants as content
use Rattle.request_wait.specs.Table.{octets as bytes_of, form_of, operation_content, auth_content}
use Rattle.request_wait.specs.Inside.{Outcome, done, outcome, inside, of_content, one, many_of, optional_of, known, choice_of, skip_of, empty, start_of, by_form}
use Rattle.request_wait.proofs.Steps.{known_tag}
use Rattle.request_wait.proofs.Fuel.{skip_is}
use Rattle.request_wait.proofs.Filters.{IsKnown, of_SearchFilter, of_Filters, of_Not, of_Substrings, of_SubstringsPieces, of_Pieces, of_MiddlePieces}
use Rattle.request_wait.proofs.Firsts.{outcome_bind, outcome_end, outcome_value, same_bind, passes, same_opened, by_open, element_first, first, many_first, optional_first}

abbrev Begins : Part → Type 0
Begins p = (w : Window) → inside p w ≡ by_form (form_of p) p w

of_Start : Begins part.Start
unfolding inside start_of
of_Start w = outcome_bind (outermost (open_as 0x30 w)) (λ o. request_inside o.0)

of_Request : Begins part.Request
unfolding inside one request_inside
of_Request w = first 0x02 message_id _ (inside part.Operation) w (λ id. passes (operation id.1) _ _ (λ o. passes (optional 0xa0 (many control) o.1) _ _ (λ controls. outcome_end (skip controls.1) _)))

of_AfterOperation : Begins part.AfterOperation
unfolding inside optional_of one
of_AfterOperation w = optional_first 0xa0 (many control) (λ controls. skip controls.1) skip skip w (λ x v. refl) (λ v. refl)

of_Unknown : Begins part.Unknown
unfolding inside skip_of
of_Unknown w = skip_is w

of_End : Begins part.End
unfolding inside
of_End w = refl

of_Controls : Begins part.Controls
unfolding inside many_of one
of_Controls w = many_first 0x30 control_inside w

of_Control : Begins part.Control
unfolding inside one control_inside
of_Control w = first 0x04 octets _ (inside part.ControlCritical) w (λ oid. passes (optional 0x01 boolean oid.1) _ _ (λ critical. passes (optional 0x04 octets critical.1) _ _ (λ value. outcome_end (skip value.1) _)))

of_ControlCritical : Begins part.ControlCritical
unfolding inside optional_of one
of_ControlCritical w = optional_first 0x01 boolean (λ critical. optional 0x04 octets critical.1 >>= λ value. skip value.1) (inside part.ControlValue) (inside part.ControlValue) w (λ x v. refl) (λ v. refl)

of_ControlValue : Begins part.ControlValue
unfolding inside optional_of one
of_ControlValue w = optional_first 0x04 octets (λ value. skip value.1) skip skip w (λ x v. refl) (λ v. refl)

of_Add : Begins part.Add
unfolding inside one add_inside
of_Add w = first 0x04 octets _ (inside part.AddAttributes) w (λ object. passes (element 0x30 (many attribute) object.1) _ _ (λ attrs. outcome_end (skip attrs.1) _))

of_AddAttributes : Begins part.AddAttributes
unfolding inside one
of_AddAttributes w = element_first 0x30 (many attribute) (λ attrs. skip attrs.1) skip w (λ x. refl)

of_Attributes : Begins part.Attributes
unfolding inside many_of one
of_Attributes w = many_first 0x30 attribute_inside w

of_Attribute : Begins part.Attribute
unfolding inside one attribute_inside
of_Attribute w = first 0x04 octets _ (inside part.AttributeValues) w (λ name. passes (element 0x31 (many text) name.1) _ _ (λ vals. outcome_end (ended vals.1) _))

of_AttributeValues : Begins part.AttributeValues
unfolding inside one
of_AttributeValues w = element_first 0x31 (many text) (λ vals. ended vals.1) ended w (λ x. refl)

of_Texts : Begins part.Texts
unfolding inside many_of one
of_Texts w = many_first 0x04 octets w

of_Bind : Begins part.Bind
unfolding inside one bind_inside
of_Bind w = first 0x02 int _ (inside part.BindName) w (λ version. passes (text version.1) _ _ (λ name. passes (auth name.1) _ _ (λ by. outcome_end (skip by.1) _)))

of_BindName : Begins part.BindName
unfolding inside one
of_BindName w = element_first 0x04 octets (λ name. auth name.1 >>= λ by. skip by.1) (inside part.BindAuth) w (λ x. refl)

of_Sasl : Begins part.Sasl
unfolding inside one sasl
of_Sasl w = element_first 0x04 octets (λ mechanism. optional 0x04 octets mechanism.1 >>= λ credentials. ended credentials.1) (inside part.SaslCredentials) w (λ x. refl)

of_SaslCredentials : Begins part.SaslCredentials
unfolding inside optional_of one
of_SaslCredentials w = optional_first 0x04 octets (λ credentials. ended credentials.1) ended ended w (λ x v. refl) (λ v. refl)

outcome_either : {A : Type 0} (b : Bool) (x : A) (e : Stop) → outcome (cond b (Ok x) (Err e)) ≡ cond b done (Err e)
outcome_either true x e = refl
outcome_either false x e = refl

of_Unbind : Begins part.Unbind
unfolding inside empty unbind_inside
of_Unbind w = outcome_either (eqb w.left 0) _ _

of_Modify : Begins part.Modify
unfolding inside one modify_inside
of_Modify w = first 0x04 octets _ (inside part.ModifyMods) w (λ object. passes (element 0x30 (many modification) object.1) _ _ (λ mods. outcome_end (skip mods.1) _))

of_ModifyMods : Begins part.ModifyMods
unfolding inside one
of_ModifyMods w = element_first 0x30 (many modification) (λ mods. skip mods.1) skip w (λ x. refl)

of_Mods : Begins part.Mods
unfolding inside many_of one
of_Mods w = many_first 0x30 modification_inside w

of_Mod : Begins part.Mod
unfolding inside one modification_inside
of_Mod w = first 0x0a int _ (inside part.ModAttribute) w (λ kind. passes (attribute kind.1) _ _ (λ attr. outcome_end (ended attr.1) _))

of_ModAttribute : Begins part.ModAttribute
unfolding inside one
of_ModAttribute w = element_first 0x30 attribute_inside (λ attr. ended attr.1) ended w (λ x. refl)

of_Rename : Begins part.Rename
unfolding inside one rename_inside
of_Rename w = first 0x04 octets _ (inside part.RenameNewRdn) w (λ object. passes (text object.1) _ _ (λ new_rdn. passes (element 0x01 boolean new_rdn.1) _ _ (λ delete_old. passes (optional 0x80 octets delete_old.1) _ _ (λ new_superior. outcome_end (skip new_superior.1) _))))

of_RenameNewRdn : Begins part.RenameNewRdn
unfolding inside one
of_RenameNewRdn w = element_first 0x04 octets (λ new_rdn. element 0x01 boolean new_rdn.1 >>= λ delete_old. optional 0x80 octets delete_old.1 >>= λ new_superior. skip new_superior.1) (inside part.RenameDeleteOld) w (λ x. refl)

of_RenameDeleteOld : Begins part.RenameDeleteOld
unfolding inside one
of_RenameDeleteOld w = element_first 0x01 boolean (λ delete_old. optional 0x80 octets delete_old.1 >>= λ new_superior. skip new_superior.1) (inside part.RenameNewSuperior) w (λ x. refl)

of_RenameNewSuperior : Begins part.RenameNewSuperior
unfolding inside optional_of one
of_RenameNewSuperior w = optional_first 0x80 octets (λ new_superior. skip new_superior.1) skip skip w (λ x v. refl) (λ v. refl)

of_Compare : Begins part.Compare
unfolding inside one compare_inside
of_Compare w = first 0x04 octets _ (inside part.CompareAssertion) w (λ object. passes (element 0x30 assertion object.1) _ _ (λ ava. outcome_end (skip ava.1) _))

of_CompareAssertion : Begins part.CompareAssertion
unfolding inside one
of_CompareAssertion w = element_first 0x30 assertion (λ ava. skip ava.1) skip w (λ x. refl)

of_Assertion : Begins part.Assertion
unfolding inside one assertion
of_Assertion w = first 0x04 octets _ (inside part.AssertionValue) w (λ name. passes (text name.1) _ _ (λ value. outcome_end (ended value.1) _))

of_AssertionValue : Begins part.AssertionValue
unfolding inside one
of_AssertionValue w = element_first 0x04 octets (λ value. ended value.1) ended w (λ x. refl)

of_Extended : Begins part.Extended
unfolding inside one extended_inside
of_Extended w = first 0x80 octets _ (inside part.ExtendedValue) w (λ oid. passes (optional 0x81 octets oid.1) _ _ (λ value. outcome_end (skip value.1) _))

of_ExtendedValue : Begins part.ExtendedValue
unfolding inside optional_of one
of_ExtendedValue w = optional_first 0x81 octets (λ value. skip value.1) skip skip w (λ x v. refl) (λ v. refl)

of_Search : Begins part.Search
unfolding inside one search_inside
of_Search w =
    first 0x04 octets _ (inside part.SearchScope) w (λ base. passes (element 0x0a int base.1) _ _ (λ scope. passes (element 0x0a int scope.1) _ _ (λ deref. passes (element 0x02 count deref.1) _ _ (λ size_limit.
    passes (element 0x02 count size_limit.1) _ _ (λ time_limit. passes (element 0x01 boolean time_limit.1) _ _ (λ types_only. passes (filter_at 50 types_only.1) _ _ (λ f. passes (element 0x30 (many text) f.1) _ _ (λ attrs. outcome_end (skip attrs.1) _))))))))

of_SearchScope : Begins part.SearchScope
unfolding inside one
of_SearchScope w = element_first 0x0a int _ (inside part.SearchDeref) w (λ x. refl)

of_SearchDeref : Begins part.SearchDeref
unfolding inside one
of_SearchDeref w = element_first 0x0a int _ (inside part.SearchSizeLimit) w (λ x. refl)

of_SearchSizeLimit : Begins part.SearchSizeLimit
unfolding inside one
of_SearchSizeLimit w = element_first 0x02 count _ (inside part.SearchTimeLimit) w (λ x. refl)

of_SearchTimeLimit : Begins part.SearchTimeLimit
unfolding inside one
of_SearchTimeLimit w = element_first 0x02 count _ (inside part.SearchTypesOnly) w (λ x. refl)

of_SearchTypesOnly : Begins part.SearchTypesOnly
unfolding inside one
of_SearchTypesOnly w = element_first 0x01 boolean _ (inside part.SearchFilter) w (λ x. refl)

of_SearchAttributes : Begins part.SearchAttributes
unfolding inside one
of_SearchAttributes w = element_first 0x30 (many text) (λ attrs. skip attrs.1) skip w (λ x. refl)

of_FinalPiece : Begins part.FinalPiece
unfolding inside optional_of one
of_FinalPiece w = optional_first 0x82 octets (λ last. ended last.1) ended ended w (λ x v. refl) (λ v. refl)

of_InitialPiece : Begins part.InitialPiece
unfolding inside optional_of one
of_InitialPiece w = optional_first 0x80 octets _ (inside part.MiddlePieces) (inside part.MiddlePieces) w (λ x v. refl) (λ v. refl)

-- ---- elements by their tags

operation_by : (w : Window) (t : ℕ) (x : Content) → tag_here w ≡ Ok t → is_op_tag t ≡ true → ((v : Window) → outcome (op_inside t v) ≡ of_content x v) → inside part.Operation w ≡ one t x part.AfterOperation w
unfolding inside operation one
operation_by w t x is op same =
    rw (known_tag w t is, is, op) (by_open (open_here w) (op_inside t) (λ o. optional 0xa0 (many control) o.1 >>= λ controls. skip controls.1) (inside part.AfterOperation) (λ o. refl)
    ∙ same_bind (open_here w) _ _ (λ o. ap (λ (r : Outcome). r >>= λ u. inside part.AfterOperation o.1) (same o.0)))

operation_known : (w : Window) (t n : ℕ) (x : Content) (others : Option Content) → tag_here w ≡ Ok t → is_op_tag n ≡ true → ((v : Window) → outcome (op_inside n v) ≡ of_content x v)
    → IsKnown (inside part.Operation w) t part.AfterOperation w others → IsKnown (inside part.Operation w) t part.AfterOperation w (cond (t == n) (Some x) others)
operation_known w t n x others is op same rest =
    cond_both (t == n) (Some x) others (IsKnown (inside part.Operation w) t part.AfterOperation w)
    (λ e. let q : n ≡ t = sym (eqb-true t n e) in operation_by w t x is (subst (λ (m : ℕ). is_op_tag m ≡ true) q op) (subst (λ (m : ℕ). (v : Window) → outcome (op_inside m v) ≡ of_content x v) q same))
    (λ e. rest)

operation_tag : (w : Window) (t : ℕ) → tag_here w ≡ Ok t → IsKnown (inside part.Operation w) t part.AfterOperation w (operation_content t)
unfolding operation_content op_inside delete_inside abandon_inside inside
operation_tag w t is =
    operation_known w t 0x60 (content.Inner part.Bind) _ is refl (λ v. refl)
    (operation_known w t 0x42 (content.Inner part.Unbind) _ is refl (λ v. refl)
    (operation_known w t 0x63 (content.Inner part.Search) _ is refl (λ v. refl)
    (operation_known w t 0x66 (content.Inner part.Modify) _ is refl (λ v. refl)
    (operation_known w t 0x68 (content.Inner part.Add) _ is refl (λ v. refl)
    (operation_known w t 0x4a bytes_of _ is refl (λ v. outcome_value (octets v) op.Delete)
    (operation_known w t 0x6c (content.Inner part.Rename) _ is refl (λ v. refl)
    (operation_known w t 0x6e (content.Inner part.Compare) _ is refl (λ v. refl)
    (operation_known w t 0x50 (content.Leaf leaf.Count) _ is refl (λ v. outcome_value (count v) op.Abandon)
    (operation_known w t 0x77 (content.Inner part.Extended) _ is refl (λ v. refl)
    refl)))))))))

operation_read : (w : Window) (r : Result ℕ Stop) → tag_here w ≡ r → inside part.Operation w ≡ (r >>= λ t. known (inside part.Operation w) t (operation_content t) part.AfterOperation w)
unfolding inside operation
operation_read w (Ok t) is = operation_tag w t is
operation_read w (Err e) is = rw is refl

of_Operation : Begins part.Operation
unfolding choice_of
of_Operation w = operation_read w (tag_here w) refl

auth_known : (w : Window) (t n : ℕ) (x : Content) (others : Option Content) → (t ≡ n → inside part.BindAuth w ≡ one t x part.Unknown w) → IsKnown (inside part.BindAuth w) t part.Unknown w others → IsKnown (inside part.BindAuth w) t part.Unknown w (cond (t == n) (Some x) others)
auth_known w t n x others this rest = cond_both (t == n) (Some x) others (IsKnown (inside part.BindAuth w) t part.Unknown w) (λ e. this (eqb-true t n e)) (λ e. rest)

with_value : {A B : Type 0} (r : Reading A) (f : A × Window → B) (k : B × Window → Outcome) → ((r >>= λ p. Ok (f p, p.1)) >>= k) ≡ (r >>= λ p. k (f p, p.1))
with_value (Ok x) f k = refl
with_value (Err e) f k = refl

simple_auth : (w : Window) → tag_here w ≡ Ok 0x80 → inside part.BindAuth w ≡ one 0x80 bytes_of part.Unknown w
unfolding inside one auth
simple_auth w is = rw is (with_value (element 0x80 octets w) (λ p. Simple p.0) (λ by. skip by.1) ∙ element_first 0x80 octets (λ p. skip p.1) skip w (λ x. refl))

same_outcome : (r : Outcome) → outcome r ≡ r
same_outcome (Ok u) = refl
same_outcome (Err e) = refl

sasl_auth : (w : Window) → tag_here w ≡ Ok 0xa3 → inside part.BindAuth w ≡ one 0xa3 (content.Inner part.Sasl) part.Unknown w
unfolding inside one auth
sasl_auth w is = rw is (with_value (element 0xa3 sasl w) (λ p. Sasl) (λ by. skip by.1) ∙ element_first 0xa3 sasl (λ p. skip p.1) skip w (λ x. refl) ∙ same_opened (λ v. outcome (sasl v)) sasl skip (open_as 0xa3 w) (λ v. same_outcome (sasl v)))

auth_tag : (w : Window) (t : ℕ) → tag_here w ≡ Ok t → IsKnown (inside part.BindAuth w) t part.Unknown w (auth_content t)
unfolding auth_content
auth_tag w t is =
    auth_known w t 0x80 bytes_of _ (λ e. subst (λ (n : ℕ). inside part.BindAuth w ≡ one n bytes_of part.Unknown w) (sym e) (simple_auth w (is ∙ ap (λ (n : ℕ). Ok n) e)))
    (auth_known w t 0xa3 (content.Inner part.Sasl) _ (λ e. subst (λ (n : ℕ). inside part.BindAuth w ≡ one n (content.Inner part.Sasl) part.Unknown w) (sym e) (sasl_auth w (is ∙ ap (λ (n : ℕ). Ok n) e)))
    refl)

auth_read : (w : Window) (r : Result ℕ Stop) → tag_here w ≡ r → inside part.BindAuth w ≡ (r >>= λ t. known (inside part.BindAuth w) t (auth_content t) part.Unknown w)
unfolding inside auth
auth_read w (Ok t) is = auth_tag w t is
auth_read w (Err e) is = rw is refl

of_BindAuth : Begins part.BindAuth
unfolding choice_of
of_BindAuth w = auth_read w (tag_here w) refl

-- ---- each part

pub begins : (p : Part) → Begins p
begins part.Start = of_Start
begins part.Request = of_Request
begins part.Operation = of_Operation
begins part.AfterOperation = of_AfterOperation
begins part.Unknown = of_Unknown
begins part.End = of_End
begins part.Controls = of_Controls
begins part.Control = of_Control
begins part.ControlCritical = of_ControlCritical
begins part.ControlValue = of_ControlValue
begins part.Bind = of_Bind
begins part.BindName = of_BindName
begins part.BindAuth = of_BindAuth
begins part.Sasl = of_Sasl
begins part.SaslCredentials = of_SaslCredentials
begins part.Unbind = of_Unbind
begins part.Search = of_Search
begins part.SearchScope = of_SearchScope
begins part.SearchDeref = of_SearchDeref
begins part.SearchSizeLimit = of_SearchSizeLimit
begins part.SearchTimeLimit = of_SearchTimeLimit
begins part.SearchTypesOnly = of_SearchTypesOnly
begins part.SearchFilter = of_SearchFilter
begins part.SearchAttributes = of_SearchAttributes
begins (part.Filters levels) = of_Filters levels
begins (part.Not levels) = of_Not levels
begins part.Substrings = of_Substrings
begins part.SubstringsPieces = of_SubstringsPieces
begins part.Pieces = of_Pieces
begins part.InitialPiece = of_InitialPiece
begins part.MiddlePieces = of_MiddlePieces
begins part.FinalPiece = of_FinalPiece
begins part.Modify = of_Modify
begins part.ModifyMods = of_ModifyMods
begins part.Mods = of_Mods
begins part.Mod = of_Mod
begins part.ModAttribute = of_ModAttribute
begins part.Add = of_Add
begins part.AddAttributes = of_AddAttributes
begins part.Attributes = of_Attributes
begins part.Attribute = of_Attribute
begins part.AttributeValues = of_AttributeValues
begins part.Texts = of_Texts
begins part.Rename = of_Rename
begins part.RenameNewRdn = of_RenameNewRdn
begins part.RenameDeleteOld = of_RenameDeleteOld
begins part.RenameNewSuperior = of_RenameNewSuperior
begins part.Compare = of_Compare
begins part.CompareAssertion = of_CompareAssertion
begins part.Assertion = of_Assertion
begins part.AssertionValue = of_AssertionValue
begins part.Extended = of_Extended
begins part.ExtendedValue = of_ExtendedValue
