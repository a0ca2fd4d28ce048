mod Slices
