-- The types of city objects, their names, families and levels.
use Rattle.std.specs.Prelude.{ℕ, List, [], ◌∷◌, Option, Some, None, codes, if◌then◌else◌}
use Rattle.std.specs.Str.{bytes_eq}
use Rattle.city_model.specs.declared.object_type.ObjectType.{ObjectType}

abbrev pub name_of : ObjectType → List ℕ
name_of ObjectType.Building = codes "Building"
name_of ObjectType.Bridge = codes "Bridge"
name_of ObjectType.Tunnel = codes "Tunnel"
name_of ObjectType.CityFurniture = codes "CityFurniture"
name_of ObjectType.LandUse = codes "LandUse"
name_of ObjectType.OtherConstruction = codes "OtherConstruction"
name_of ObjectType.PlantCover = codes "PlantCover"
name_of ObjectType.SolitaryVegetationObject = codes "SolitaryVegetationObject"
name_of ObjectType.TINRelief = codes "TINRelief"
name_of ObjectType.Road = codes "Road"
name_of ObjectType.Railway = codes "Railway"
name_of ObjectType.Waterway = codes "Waterway"
name_of ObjectType.TransportSquare = codes "TransportSquare"
name_of ObjectType.WaterBody = codes "WaterBody"
name_of ObjectType.GenericCityObject = codes "GenericCityObject"
name_of ObjectType.BuildingPart = codes "BuildingPart"
name_of ObjectType.BuildingInstallation = codes "BuildingInstallation"
name_of ObjectType.BuildingConstructiveElement = codes "BuildingConstructiveElement"
name_of ObjectType.BuildingFurniture = codes "BuildingFurniture"
name_of ObjectType.BuildingStorey = codes "BuildingStorey"
name_of ObjectType.BuildingRoom = codes "BuildingRoom"
name_of ObjectType.BuildingUnit = codes "BuildingUnit"
name_of ObjectType.BridgePart = codes "BridgePart"
name_of ObjectType.BridgeInstallation = codes "BridgeInstallation"
name_of ObjectType.BridgeConstructiveElement = codes "BridgeConstructiveElement"
name_of ObjectType.BridgeRoom = codes "BridgeRoom"
name_of ObjectType.BridgeFurniture = codes "BridgeFurniture"
name_of ObjectType.TunnelPart = codes "TunnelPart"
name_of ObjectType.TunnelInstallation = codes "TunnelInstallation"
name_of ObjectType.TunnelConstructiveElement = codes "TunnelConstructiveElement"
name_of ObjectType.TunnelHollowSpace = codes "TunnelHollowSpace"
name_of ObjectType.TunnelFurniture = codes "TunnelFurniture"

abbrev pub all_types : List ObjectType
all_types =
    ObjectType.Building ∷ ObjectType.Bridge ∷ ObjectType.Tunnel ∷ ObjectType.CityFurniture ∷ ObjectType.LandUse
    ∷ ObjectType.OtherConstruction ∷ ObjectType.PlantCover ∷ ObjectType.SolitaryVegetationObject
    ∷ ObjectType.TINRelief ∷ ObjectType.Road ∷ ObjectType.Railway ∷ ObjectType.Waterway
    ∷ ObjectType.TransportSquare ∷ ObjectType.WaterBody ∷ ObjectType.GenericCityObject
    ∷ ObjectType.BuildingPart ∷ ObjectType.BuildingInstallation ∷ ObjectType.BuildingConstructiveElement
    ∷ ObjectType.BuildingFurniture ∷ ObjectType.BuildingStorey ∷ ObjectType.BuildingRoom
    ∷ ObjectType.BuildingUnit ∷ ObjectType.BridgePart ∷ ObjectType.BridgeInstallation
    ∷ ObjectType.BridgeConstructiveElement ∷ ObjectType.BridgeRoom ∷ ObjectType.BridgeFurniture
    ∷ ObjectType.TunnelPart ∷ ObjectType.TunnelInstallation ∷ ObjectType.TunnelConstructiveElement
    ∷ ObjectType.TunnelHollowSpace ∷ ObjectType.TunnelFurniture ∷ []

-- the first of the types with the name s
abbrev pub first_named : List ℕ → List ObjectType → Option ObjectType
first_named s [] = None
first_named s (t ∷ ts) = if bytes_eq s (name_of t) then Some t else first_named s ts

unfoldable pub type_named : List ℕ → Option ObjectType
type_named s = first_named s all_types

-- the first-level type of the family; of a first-level type itself
abbrev pub family_of : ObjectType → ObjectType
family_of ObjectType.BuildingPart = ObjectType.Building
family_of ObjectType.BuildingInstallation = ObjectType.Building
family_of ObjectType.BuildingConstructiveElement = ObjectType.Building
family_of ObjectType.BuildingFurniture = ObjectType.Building
family_of ObjectType.BuildingStorey = ObjectType.Building
family_of ObjectType.BuildingRoom = ObjectType.Building
family_of ObjectType.BuildingUnit = ObjectType.Building
family_of ObjectType.BridgePart = ObjectType.Bridge
family_of ObjectType.BridgeInstallation = ObjectType.Bridge
family_of ObjectType.BridgeConstructiveElement = ObjectType.Bridge
family_of ObjectType.BridgeRoom = ObjectType.Bridge
family_of ObjectType.BridgeFurniture = ObjectType.Bridge
family_of ObjectType.TunnelPart = ObjectType.Tunnel
family_of ObjectType.TunnelInstallation = ObjectType.Tunnel
family_of ObjectType.TunnelConstructiveElement = ObjectType.Tunnel
family_of ObjectType.TunnelHollowSpace = ObjectType.Tunnel
family_of ObjectType.TunnelFurniture = ObjectType.Tunnel
family_of kind = kind

-- first-level, or second-level
abbrev pub level_of : ObjectType → ℕ
level_of kind = if bytes_eq (name_of (family_of kind)) (name_of kind) then 1 else 2
